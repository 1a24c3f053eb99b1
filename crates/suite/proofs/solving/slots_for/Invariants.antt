use Rattle.std.proofs.Common.{◌≡◌, length, Option, None}
use Rattle.std.specs.List.{All}
use Rattle.suite.specs.declared.problem.Answer.{Answer}
use Rattle.suite.proofs.solving.slots_for.Given as goal

abbrev pub invariant-loop-problem : goal.invariant-loop-problem
invariant-loop-problem l = record { none : All (λ (o : Option Answer). o ≡ None) l.slots.items; count : length l.slots.items ≡ l._problem }
