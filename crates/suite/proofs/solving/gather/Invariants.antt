use Rattle.suite.specs.Workers.{AreSlots, HaveFound}
use Rattle.suite.proofs.solving.gather.Given as goal

abbrev pub invariant-loop-job : goal.invariant-loop-job
invariant-loop-job l = record { slots : AreSlots l.problems l.slots.items; found : HaveFound l.problems l.jobs.items }

abbrev pub decreases-loop-job : goal.decreases-loop-job
decreases-loop-job l = goal.left-loop-job l
