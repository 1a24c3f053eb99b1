use Rattle.std.proofs.Common.{◌≡◌, None}
use Rattle.betza_text.specs.PartFault.{modifiers_fault}
use Rattle.betza_text.proofs.judge.modifiers_fault.Given as goal

abbrev pub invariant-loop-k : goal.invariant-loop-k
invariant-loop-k l = modifiers_fault l.at l.modifiers l.k ≡ None
