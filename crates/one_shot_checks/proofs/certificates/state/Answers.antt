use Rattle.std.proofs.Common.{◌≡◌, Err, Ok, arith}
use Rattle.std.specs.Prelude.{Result}
use Rattle.std.proofs.lemmas.Result.{err_from_is_err_and}
use Rattle.stipulation.specs.declared.cert.Cert.{Cert}
use Rattle.cert_text.specs.declared.fault.CertFault.{CertFault}
use Rattle.cert_text.specs.View.{HasWhy}
use Rattle.game_text.proofs.HeardLemmas.{heard_nothing, heard_so}
use Rattle.one_shot_checks.specs.declared.certificates.Stipulated.{Stipulated}
use Rattle.one_shot_checks.specs.declared.fault.Fault.{Fault}
use Rattle.one_shot_checks.specs.CheckView.{States}
use Rattle.one_shot_checks.specs.NoAnswerView.{cert_no_answer}
use Rattle.one_shot_checks.proofs.CertLemmas.{cert_bad, cert_good, cert_unheard, problem_bad, problem_first, problem_unheard, stated_heard, variants_heard}
use Rattle.one_shot_checks.proofs.certificates.state.Goals as goal

pub returns-in_err-variants-clause-heard : goal.returns-in_err-variants-clause-heard
returns-in_err-variants-clause-heard g c =
    let p = err_from_is_err_and c.from_residual.result c.from_residual.ensures.1 in
    rw (p.1, p.2) (heard_nothing _ _ _ (λ lines. tt))

pub returns-in_err-problem-clause-heard : goal.returns-in_err-problem-clause-heard
returns-in_err-problem-clause-heard g c =
    let p = err_from_is_err_and c.from_residual-in_err-problem.result c.from_residual-in_err-problem.ensures.1 in
    rw (p.1, p.2) (heard_so _ _ _ _ _ _ (variants_heard _ _ _ _ (Err c.in_err-problem.field-0.0) c.in_ok-variants.ensures c.in_err-problem.ensures.heard) (problem_first _)
    (λ lines says. problem_bad lines _ c.in_err-problem.field-0.0 says))

pub returns-in_err-problem-clause-cause : goal.returns-in_err-problem-clause-cause
returns-in_err-problem-clause-cause g c =
    let p = err_from_is_err_and c.from_residual-in_err-problem.result c.from_residual-in_err-problem.ensures.1 in
    rw (p.1, p.2) (record { later = omega arith; failed = λ unheard. c.in_err-problem.ensures.cause.failed (problem_unheard c.in_err-problem.field-0.0 unheard) })

pub returns-in_err-cert-clause-heard : goal.returns-in_err-cert-clause-heard
returns-in_err-cert-clause-heard g c =
    let p = err_from_is_err_and c.from_residual-in_err-cert.result c.from_residual-in_err-cert.ensures.1 in
    rw (p.1, p.2) (stated_heard _ _ _ _ c.in_ok-problem.problem (λ (r : Result Cert CertFault). HasWhy r c.in_err-cert.field-0.0)
    (λ (r : Result Stipulated Fault). States r (Err (cert_no_answer c.in_err-cert.field-0.0)))
    (variants_heard _ _ _ _ (Ok c.in_ok-problem.problem) c.in_ok-variants.ensures c.in_ok-problem.ensures.heard)
    c.in_err-cert.ensures.heard
    (λ r says. cert_bad c.in_ok-problem.problem r c.in_err-cert.field-0.0 says))

pub returns-in_err-cert-clause-cause : goal.returns-in_err-cert-clause-cause
returns-in_err-cert-clause-cause g c =
    let p = err_from_is_err_and c.from_residual-in_err-cert.result c.from_residual-in_err-cert.ensures.1 in
    rw (p.1, p.2) (record { later = omega arith; failed = λ unheard. let rose = c.in_err-cert.ensures.cause.failed (cert_unheard c.in_err-cert.field-0.0 unheard) in let later = c.in_ok-problem.ensures.cause.later in omega (arith, rose, later) })

pub returns-clause-heard : goal.returns-clause-heard
returns-clause-heard g c =
    stated_heard _ _ _ _ c.in_ok-problem.problem (λ (r : Result Cert CertFault). r ≡ Ok c.in_ok-cert.cert)
    (λ (r : Result Stipulated Fault). r ≡ Ok (record { problem = c.in_ok-problem.problem; cert = c.in_ok-cert.cert }))
    (variants_heard _ _ _ _ (Ok c.in_ok-problem.problem) c.in_ok-variants.ensures c.in_ok-problem.ensures.heard)
    c.in_ok-cert.ensures.heard
    (λ r says. cert_good c.in_ok-problem.problem r c.in_ok-cert.cert says)
