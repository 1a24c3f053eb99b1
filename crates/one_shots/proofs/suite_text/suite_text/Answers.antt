use Rattle.std.proofs.Common.{Ok, Err, arith}
use Rattle.std.proofs.lemmas.Result.{err_from_is_err_and}
use Rattle.game_text.proofs.HeardLemmas.{heard_nothing, heard_so, same_needed}
use Rattle.one_shots.proofs.SuiteLemmas.{no_suite_answers, no_suite_unheard, report_answers, suite_heard}
use Rattle.one_shots.proofs.suite_text.suite_text.Goals as goal

pub returns-in_err-variants-clause-heard : goal.returns-in_err-variants-clause-heard
returns-in_err-variants-clause-heard g c =
    let p = err_from_is_err_and c.from_residual.result c.from_residual.ensures.1 in
    rw (p.1, p.2) (heard_nothing _ _ _ (λ lines. tt))

pub returns-in_err-solve_suite-clause-heard : goal.returns-in_err-solve_suite-clause-heard
returns-in_err-solve_suite-clause-heard g c =
    let p = err_from_is_err_and c.from_residual-in_err-solve_suite.result c.from_residual-in_err-solve_suite.ensures.1 in
    rw (p.1, p.2) (heard_so _ _ _ _ _ _ (suite_heard _ _ _ _ (Err c.in_err-solve_suite.field-0.0) c.in_ok-variants.ensures c.in_err-solve_suite.ensures.heard) (same_needed _)
    (λ lines says. no_suite_answers _ c.in_err-solve_suite.field-0.0 says))

pub returns-in_err-solve_suite-clause-cause : goal.returns-in_err-solve_suite-clause-cause
returns-in_err-solve_suite-clause-cause g c =
    let p = err_from_is_err_and c.from_residual-in_err-solve_suite.result c.from_residual-in_err-solve_suite.ensures.1 in
    rw (p.1, p.2) (record { later = omega arith; failed = λ unheard. c.in_err-solve_suite.ensures.cause.failed (no_suite_unheard c.in_err-solve_suite.field-0.0 unheard) })

pub returns-clause-heard : goal.returns-clause-heard
returns-clause-heard g c =
    heard_so _ _ _ _ _ _ (suite_heard _ _ _ _ (Ok c.in_ok-solve_suite.field-0) c.in_ok-variants.ensures c.in_ok-solve_suite.ensures.heard) (same_needed _) (λ lines says. report_answers _ _ says)
