use Rattle.suite.specs.Workers.{AreFound, AreSlots}
use Rattle.suite.proofs.solving.put_all.Given as goal

abbrev pub invariant-loop-one : goal.invariant-loop-one
invariant-loop-one l = record { slots : AreSlots l.problems l.slots.items; found : AreFound l.problems l.found.items }

abbrev pub decreases-loop-one : goal.decreases-loop-one
decreases-loop-one l = goal.left-loop-one l
