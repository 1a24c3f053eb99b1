use Rattle.suite.proofs.ReportLemmas.{report-is, report-length, told-same}
use Rattle.suite.proofs.reporting.report_on.Goals as goal

pub write_report-requires : goal.write_report-requires
write_report-requires g c =
    report-length c.args.suite.now c.lines.result.now c.problems.result.now c.answers.result.now c.in_ok-solved.solved c.requires.listed.numbered c.lines.ensures c.problems.ensures c.answers.ensures c.in_ok-solved.ensures

pub returns : goal.returns
returns g c =
    told-same c.write_report.result _ _
    (report-is c.args.suite.now c.lines.result.now c.problems.result.now c.answers.result.now c.in_ok-solved.solved c.lines.ensures c.problems.ensures c.answers.ensures c.in_ok-solved.ensures)
    c.write_report.ensures
