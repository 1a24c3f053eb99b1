use Rattle.std.proofs.Common.{sym, subst}
use Rattle.std.specs.Prelude.{OnOk}
use Rattle.std.proofs.lemmas.Result.{on_ok_weaker}
use Rattle.legality.specs.Chosen.{AppendsChosen}
use Rattle.legality.specs.Stance.{Stance, repeat_in}
use Rattle.legality.proofs.ListLaws.{appended_legal, nothing_legal}
use Rattle.legality.proofs.move_gen.MoveGen.push_legal.Goals as goal

pub returns-then-not-goes_on-clause-ok : goal.returns-then-not-goes_on-clause-ok
returns-then-not-goes_on-clause-ok c = nothing_legal _ _ _ (sym c.if-not-goes_on.ensures)

pub returns-clause-ok : goal.returns-clause-ok
returns-clause-ok c =
    let s = c.args.self.now in
    let gen_type = c.legal_gen_type-gen_type.result in
    let At : Stance → Type 0 = λ s. OnOk c.push_chosen.result (AppendsChosen s.rules (repeat_in s) gen_type c.args.out.now c.push_chosen.new.out) in
    on_ok_weaker c.push_chosen.result
    (λ u. appended_legal s.rules (repeat_in s) (sym c.if-not-goes_on.ensures) gen_type _ _ c.legal_gen_type-gen_type.ensures u)
    (subst At c.self.view_is c.push_chosen.ensures.ok)
