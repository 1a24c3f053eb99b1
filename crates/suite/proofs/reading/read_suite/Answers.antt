use Rattle.std.proofs.lemmas.Result.{err_from_is_err_and}
use Rattle.suite.proofs.ReadLemmas.{read_failed}
use Rattle.suite.proofs.reading.read_suite.Goals as goal

pub returns-in_err-add_lines-clause-heard : goal.returns-in_err-add_lines-clause-heard
returns-in_err-add_lines-clause-heard g c =
    let p = err_from_is_err_and c.from_residual-in_err-add_lines.result c.from_residual-in_err-add_lines.ensures.1 in
    rw (p.1, p.2) (read_failed c.args.variants.now _ _ _ c.add_lines.new.suite c.in_err-add_lines.field-0.0 c.nothing_listed-suite.ensures c.in_err-add_lines.ensures.heard)
