use Rattle.suite.specs.Workers.{AreFound}
use Rattle.suite.proofs.work.work.Given as goal

abbrev pub invariant-loop-turn : goal.invariant-loop-turn
invariant-loop-turn g l = AreFound l.problems l.job.found.items
