use Rattle.std.proofs.lemmas.Result.{err_from_is_err_and}
use Rattle.suite.proofs.ReportLemmas.{report-failed}
use Rattle.suite.proofs.reporting.solve_suite.Goals as goal

pub returns-in_err-suite-clause-heard : goal.returns-in_err-suite-clause-heard
returns-in_err-suite-clause-heard g c =
    let p = err_from_is_err_and c.from_residual.result c.from_residual.ensures.1 in
    rw (p.1, p.2) (report-failed c.args.variants.now _ _ c.in_err-suite.field-0.0 c.in_err-suite.ensures.heard)
