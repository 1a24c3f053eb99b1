use Rattle.std.proofs.Common.{sym, ◌∙◌}
use Rattle.suite.proofs.ReportLemmas.{solved-won}
use Rattle.suite.proofs.report.solved_of.Goals as goal

pub returns : goal.returns
returns c = c.count_won.ensures ∙ sym (solved-won c.args.answers.now)
