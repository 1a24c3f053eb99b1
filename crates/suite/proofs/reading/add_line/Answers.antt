use Rattle.std.proofs.Common.{sym, ◌∙◌}
use Rattle.std.proofs.lemmas.Result.{err_from_is_err_and}
use Rattle.suite.proofs.ReadLemmas.{line-added, line-fault, line-skipped}
use Rattle.suite.proofs.reading.add_line.Goals as goal

pub returns-then-is_skipped-clause-adds : goal.returns-then-is_skipped-clause-adds
returns-then-is_skipped-clause-adds c =
    line-skipped c.args.variants.now c.args.line c.args.suite.now c.args.text.now (sym c.is_skipped.ensures ∙ c.if-is_skipped.true)

pub returns-in_err-problem-clause-adds : goal.returns-in_err-problem-clause-adds
returns-in_err-problem-clause-adds c =
    let p = err_from_is_err_and c.from_residual.result c.from_residual.ensures.1 in
    rw (p.1, p.2) (line-fault c.args.variants.now c.args.line c.args.suite.now c.args.suite.now c.args.text.now c.in_err-problem.field-0.0 (sym c.is_skipped.ensures ∙ c.if-is_skipped.false) c.in_err-problem.ensures.reads)

pub returns-clause-adds : goal.returns-clause-adds
returns-clause-adds c =
    line-added c.args.variants.now c.args.line c.args.suite.now c.add.new.suite c.args.text.now c.in_ok-problem.problem c.add.result (sym c.is_skipped.ensures ∙ c.if-is_skipped.false) c.in_ok-problem.ensures.reads c.add.ensures.adds
