use Rattle.std.proofs.Common.{take}
use Rattle.suite.specs.Answers.{AreAnswers}
use Rattle.suite.specs.Workers.{AreSlots}
use Rattle.suite.proofs.solving.complete.Given as goal

abbrev pub invariant-loop-at : goal.invariant-loop-at
invariant-loop-at g l = record { slots : AreSlots l.problems l.slots.items; answers : AreAnswers (take l.at l.problems) l.answers.items }
