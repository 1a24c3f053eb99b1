use Rattle.std.proofs.Common.{◌≡◌, true, ap, sym, subst, ◌∙◌, List}
use Rattle.rules_model.specs.declared.moves.Move.{Move}
use Rattle.rules_model.specs.Games.{are_legal}
use Rattle.game_line.specs.Lined.{Lined}
use Rattle.game_line.proofs.LineLaws.{legal-at}
use Rattle.game_line.proofs.line.Line.copied.Goals as goal

pub push-requires-clause-legal : goal.push-requires-clause-legal
push-requires-clause-legal c =
    let l = c.args.self.now in
    let is : l.moves ≡ c.deref-m-items.result.now = ap (λ (x : Lined). x.moves) (sym c.self.view_is) ∙ sym c.deref-m-items.ensures.value in
    let legal : are_legal l.rules l.base.last l.moves ≡ true = subst (λ (x : Lined). are_legal x.rules x.base.last x.moves ≡ true) c.self.view_is c.self.invariant.0.are_legal in
    rw c.loop-m.invariant (legal-at l.rules l.base c.deref-m-items.result.now c.loop-m.m-index _ (subst (λ (ms : List Move). are_legal l.rules l.base.last ms ≡ true) is legal) c.loop-m-test.true)
