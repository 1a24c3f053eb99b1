use Rattle.std.proofs.Common.{sym, subst}
use Rattle.std.specs.Prelude.{OnOk}
use Rattle.std.proofs.lemmas.Result.{on_ok_weaker}
use Rattle.legality.specs.AskedChoices.{AppendsAsked}
use Rattle.legality.specs.Stance.{Stance, repeat_in}
use Rattle.legality.proofs.ListLaws.{appended_asked, no_asked}
use Rattle.legality.proofs.move_gen.MoveGen.push_asked.Goals as goal

pub returns-then-not-goes_on-clause-ok : goal.returns-then-not-goes_on-clause-ok
returns-then-not-goes_on-clause-ok c = no_asked _ _ _ _ (sym c.if-not-goes_on.ensures)

pub returns-clause-ok : goal.returns-clause-ok
returns-clause-ok c =
    let s = c.args.self.now in
    let asked = c.args.asked.now in
    let gen_type = c.legal_gen_type-gen_type.result in
    let At : Stance → Type 0 = λ s. OnOk c.push_asked_of.result (AppendsAsked asked s.rules (repeat_in s) gen_type c.args.out.now c.push_asked_of.new.out) in
    on_ok_weaker c.push_asked_of.result
    (λ u. appended_asked s.rules (repeat_in s) (sym c.if-not-goes_on.ensures) asked gen_type _ _ c.legal_gen_type-gen_type.ensures u)
    (subst At c.self.view_is c.push_asked_of.ensures.ok)
