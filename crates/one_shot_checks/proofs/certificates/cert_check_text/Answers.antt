use Rattle.std.proofs.Common.{arith}
use Rattle.std.proofs.lemmas.Result.{err_from_is_err_and}
use Rattle.game_text.proofs.HeardLemmas.{heard_so, same_needed}
use Rattle.one_shot_checks.proofs.NoAnswerLemmas.{answers_so}
use Rattle.one_shot_checks.proofs.CertLemmas.{printed, states_bad}
use Rattle.one_shot_checks.proofs.certificates.cert_check_text.Goals as goal

pub returns-in_err-stated-clause-heard : goal.returns-in_err-stated-clause-heard
returns-in_err-stated-clause-heard g c =
    let p = err_from_is_err_and c.from_residual.result c.from_residual.ensures.1 in
    rw (p.1, p.2) (heard_so _ _ _ _ _ _ c.in_err-stated.ensures.heard (same_needed _) (λ lines says. states_bad _ lines c.in_err-stated.field-0.0 says))

pub returns-in_err-verdict-clause-heard : goal.returns-in_err-verdict-clause-heard
returns-in_err-verdict-clause-heard g c =
    let p = err_from_is_err_and c.from_residual-in_err-verdict.result c.from_residual-in_err-verdict.ensures.1 in
    rw (p.1, p.2) (heard_so _ _ _ _ _ _ c.in_ok-stated.ensures.heard (same_needed _) (λ lines says. tt))

pub returns-clause-heard : goal.returns-clause-heard
returns-clause-heard g c =
    heard_so _ _ _ _ _ _ c.in_ok-stated.ensures.heard (same_needed _)
    (λ lines says. answers_so c.print.result _ _ (λ status text prints. printed _ lines c.in_ok-stated.stated c.in_ok-verdict.verdict status text says c.in_ok-verdict.ensures prints) c.print.ensures.prints)

pub returns-clause-cause : goal.returns-clause-cause
returns-clause-cause g c = let later = c.in_ok-stated.ensures.cause.later in record { later = omega (arith, later); failed = λ unheard. absurd (c.print.ensures.heard unheard) }
