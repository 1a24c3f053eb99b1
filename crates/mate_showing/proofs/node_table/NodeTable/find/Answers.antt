use Rattle.std.proofs.Common.{◌≡◌, true, Some, slice_get, sym, subst}
use Rattle.rules_model.specs.declared.board.Position.{Position}
use Rattle.mate_showing.specs.Tabled.{Tabled, StandsIn}
use Rattle.mate_showing.specs.Tables.{is_key}
use Rattle.mate_showing.proofs.Kept.{found}
use Rattle.mate_showing.proofs.node_table.NodeTable.find.Goals as goal

pub returns-then-is_made : goal.returns-then-is_made
returns-then-is_made c =
    let s = c.self.inside.nodes.items in
    let k = c.place-at.result in
    let e : c.as_slice-nodes.result.now ≡ s = c.as_slice-nodes.ensures.value in
    let m = c.is_made.ensures.made c.if-is_made.true in
    let at : slice_get s k ≡ Some m.0 = subst (λ z. slice_get z k ≡ Some m.0) e m.1 in
    let p = c.args.board.now.position in
    subst (λ (t : Tabled). StandsIn t p c.args.n k) c.self.view_is
    (found c.self.inside.frame.now c.self.inside.plan s p c.args.n k (m.0, at, m.2)
    (λ v h. subst (λ (y : Position). is_key c.self.inside.plan.exact y v ≡ true) c.position.ensures (c.place-at.ensures.here v (subst (λ z. slice_get z k ≡ Some v) (sym e) h))))
