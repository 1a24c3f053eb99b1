use Rattle.std.proofs.Common.{◌≡◌, false, sym, ◌∙◌}
use Rattle.std.proofs.lemmas.Bool.{and_right}
use Rattle.rules_model.specs.Fit.{IsFit}
use Rattle.square_set.specs.Members.{has}
use Rattle.move_tables.specs.declared.mode.Mode.TheVariants.{Take}
use Rattle.move_tables.specs.Lines.{by_parts}
use Rattle.move_tables.proofs.ReachLaws.{no_kind}
use Rattle.attack_tables.proofs.tables.Tables.takes.Goals as goal

pub returns-then-kind-ge26 : goal.returns-then-kind-ge26
returns-then-kind-ge26 c = λ cells is.
    let fit : IsFit c.args.self.now = rw (sym c.self.view_is) c.self.invariant.0 in
    sym (no_kind c.args.self.now cells c.args.by c.args.kind (record { 0 = c.args.from }) Take c.args.at.0 fit c.if-kind-ge26.true)

pub returns-then-not-has : goal.returns-then-not-has
returns-then-not-has c = λ cells is.
    let out : has c.spot-spot.result.now.within c.args.at.0 ≡ false = sym c.has.ensures ∙ c.if-not-has.true in
    rw (sym c.self.view_is) (sym (sym (c.spot-spot.ensures c.args.occupied cells is c.args.at.0) ∙ and_right (by_parts c.spot-spot.result.now c.args.occupied c.args.at.0) (has c.spot-spot.result.now.within c.args.at.0) out))

pub returns : goal.returns
returns c = λ cells is. c.has-2.ensures ∙ c.reach.ensures c.args.at.0 ∙ rw (sym c.self.view_is) (c.spot-spot.ensures c.args.occupied cells is c.args.at.0)
