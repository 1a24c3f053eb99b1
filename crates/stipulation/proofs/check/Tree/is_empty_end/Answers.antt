use Rattle.std.proofs.Common.{arith}
use Rattle.stipulation.proofs.CheckLemmas.{empty-ended}
use Rattle.stipulation.proofs.check.Tree.is_empty_end.Goals as goal

pub returns : goal.returns
returns c = empty-ended c.args.self.now.task c.new-line.result c.end.result c.is_some.result c.args.self.now.steps.now (omega arith) c.new-line.ensures c.end.ensures c.is_some.ensures
