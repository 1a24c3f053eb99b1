use Rattle.std.proofs.Common.{arith}
use Rattle.std.proofs.lemmas.Result.{err_from_is_err_and}
use Rattle.game_text.proofs.HeardLemmas.{heard_so, same_needed}
use Rattle.one_shot_checks.proofs.CheckLemmas.{proof_bad, proof_good, proof_unheard}
use Rattle.one_shot_checks.proofs.checking.state_proof.Goals as goal

pub returns-in_err-read_proof_after-clause-heard : goal.returns-in_err-read_proof_after-clause-heard
returns-in_err-read_proof_after-clause-heard g c =
    let p = err_from_is_err_and c.from_residual.result c.from_residual.ensures.1 in
    rw (p.1, p.2) (heard_so _ _ _ _ _ _ c.in_err-read_proof_after.ensures.heard (same_needed _) (λ lines says. proof_bad _ c.in_err-read_proof_after.field-0.0 says))

pub returns-in_err-read_proof_after-clause-cause : goal.returns-in_err-read_proof_after-clause-cause
returns-in_err-read_proof_after-clause-cause g c =
    let p = err_from_is_err_and c.from_residual.result c.from_residual.ensures.1 in
    rw (p.1, p.2) (record { later = omega arith; failed = λ unheard. c.in_err-read_proof_after.ensures.cause.failed (proof_unheard c.in_err-read_proof_after.field-0.0 unheard) })

pub returns-clause-heard : goal.returns-clause-heard
returns-clause-heard g c =
    heard_so _ _ _ _ _ _ c.in_ok-read_proof_after.ensures.heard (same_needed _) (λ lines says. proof_good _ c.in_ok-read_proof_after.field-0 says)
