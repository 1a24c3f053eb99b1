use Rattle.std.proofs.Common.{take}
use Rattle.foundation.specs.Member.{Member}
use Rattle.mate_showing.proofs.ordering.place_of.Given as goal

abbrev pub invariant-loop-i : goal.invariant-loop-i
invariant-loop-i l = Member l.named (take l.i l.moves) → ⊥
