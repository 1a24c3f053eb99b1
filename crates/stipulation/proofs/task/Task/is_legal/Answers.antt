use Rattle.std.proofs.lemmas.Bool.Decides.{same_from_decides}
use Rattle.stipulation.proofs.TreeLemmas.{any-decides}
use Rattle.stipulation.proofs.task.Task.is_legal.Goals as goal

pub returns-clause-is : goal.returns-clause-is
returns-clause-is c = same_from_decides _ _ c.is_legal.ensures (any-decides c.args.m.now _)
