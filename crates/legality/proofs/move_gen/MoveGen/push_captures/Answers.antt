use Rattle.std.proofs.Common.{sym, subst}
use Rattle.std.specs.Prelude.{OnOk}
use Rattle.std.proofs.lemmas.Result.{on_ok_weaker}
use Rattle.legality.specs.declared.move_filter.GenType.TheVariants.{Captures}
use Rattle.legality.specs.Chosen.{AppendsChosen}
use Rattle.legality.specs.Stance.{Stance, repeat_in}
use Rattle.legality.proofs.ListLaws.{appended_captures, no_capture}
use Rattle.legality.proofs.move_gen.MoveGen.push_captures.Goals as goal

pub returns-then-not-goes_on-clause-ok : goal.returns-then-not-goes_on-clause-ok
returns-then-not-goes_on-clause-ok c = no_capture _ _ _ (sym c.if-not-goes_on.ensures)

pub returns-clause-ok : goal.returns-clause-ok
returns-clause-ok c =
    let s = c.args.self.now in
    let At : Stance → Type 0 = λ s. OnOk c.push_chosen.result (AppendsChosen s.rules (repeat_in s) Captures c.args.out.now c.push_chosen.new.out) in
    on_ok_weaker c.push_chosen.result
    (λ u. appended_captures s.rules (repeat_in s) (sym c.if-not-goes_on.ensures) _ _ u)
    (subst At c.self.view_is c.push_chosen.ensures.ok)
