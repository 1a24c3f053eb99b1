use Rattle.std.proofs.Common.{◌≡◌, length, sym, ap, refl, subst, arith}
use Rattle.std.proofs.lemmas.Result.{on_err_weaker}
use Rattle.foundation.specs.Member.{Lists}
use Rattle.legality.specs.Chosen.{FitCandidates}
use Rattle.legality.specs.Stance.{Stance, legal_in, repeat_in}
use Rattle.legality.proofs.ListLaws.{made_count, never_refused, none_legal}
use Rattle.legality.proofs.move_gen.MoveGen.count_legal.Goals as goal

pub returns-then-not-goes_on : goal.returns-then-not-goes_on
returns-then-not-goes_on c =
    let none : length (legal_in c.before.before.args.self.now) ≡ 0 = ap length (none_legal _ _ (sym c.if-not-goes_on.ensures)) in
    rw none refl

pub returns : goal.returns
returns c =
    let all = never_refused c.push_candidates.result c.push_candidates.ensures.ok (on_err_weaker c.push_candidates.result (λ some. some.taken) c.push_candidates.ensures.err) in
    let At : Stance → Type 0 = λ s. Lists (FitCandidates s.rules (repeat_in s)) all.moves in
    let each = subst At c.self.view_is all.each in
    let long = made_count _ _ _ _ (ap (λ (s : Stance). s.rules) c.self.view_is) (ap repeat_in c.self.view_is) c.legal_gen_type-gen_type.result all.moves c.legal_gen_type-gen_type.ensures (sym c.if-not-goes_on.ensures) each in
    let counted = all.taken.1 (omega arith) in
    omega (arith, counted, long)
