use Rattle.stipulation.proofs.SearchLemmas.{root-ended}
use Rattle.stipulation.proofs.task.Task.is_ended.Goals as goal

pub returns : goal.returns
returns c = root-ended c.args.self.now c.new-line.result c.end.result c.is_some.result c.new-line.ensures c.end.ensures c.is_some.ensures
