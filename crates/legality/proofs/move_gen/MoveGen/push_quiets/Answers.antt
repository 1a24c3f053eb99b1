use Rattle.std.proofs.Common.{sym, subst}
use Rattle.std.specs.Prelude.{OnOk}
use Rattle.std.proofs.lemmas.Result.{on_ok_weaker}
use Rattle.legality.specs.declared.move_filter.GenType.TheVariants.{Quiets}
use Rattle.legality.specs.Chosen.{AppendsChosen}
use Rattle.legality.specs.Stance.{Stance, repeat_in}
use Rattle.legality.proofs.ListLaws.{appended_others, no_other, only_no_other}
use Rattle.legality.proofs.move_gen.MoveGen.push_quiets.Goals as goal

pub returns-then-not-goes_on-clause-ok : goal.returns-then-not-goes_on-clause-ok
returns-then-not-goes_on-clause-ok c = no_other _ _ _ (sym c.if-not-goes_on.ensures)

pub returns-then-only_captures-clause-ok : goal.returns-then-only_captures-clause-ok
returns-then-only_captures-clause-ok c = only_no_other _ _ _ (sym c.if-only_captures.ensures)

pub returns-clause-ok : goal.returns-clause-ok
returns-clause-ok c =
    let s = c.args.self.now in
    let At : Stance → Type 0 = λ s. OnOk c.push_chosen.result (AppendsChosen s.rules (repeat_in s) Quiets c.args.out.now c.push_chosen.new.out) in
    on_ok_weaker c.push_chosen.result
    (λ u. appended_others s.rules (repeat_in s) (sym c.if-not-goes_on.ensures) (sym c.if-only_captures.ensures) _ _ u)
    (subst At c.self.view_is c.push_chosen.ensures.ok)
