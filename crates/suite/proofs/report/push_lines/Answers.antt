use Rattle.std.proofs.Common.{arith, append_assoc, take, get_or}
use Rattle.suite.specs.Leasts.{leasts}
use Rattle.suite.specs.Report.{told_of, told_of_all}
use Rattle.suite.proofs.ReportLemmas.{told-next}
use Rattle.suite.proofs.report.push_lines.Goals as goal

pub loop-i-preserved : goal.loop-i-preserved
loop-i-preserved c =
    let more = told-next c.loop-i.i c.args.lines.now c.args.answers.now c.index-answers-i.result (omega arith) (omega arith) c.index-answers-i.is in
    let joined = append_assoc c.args.text.now.items (told_of_all (take c.loop-i.i c.args.lines.now) (take c.loop-i.i (leasts c.args.answers.now))) (told_of (get_or c.args.lines.now c.loop-i.i 0) c.index-answers-i.result.least) in
    cc c.in_ok-push_line.ensures
