use Rattle.square_set.specs.Members.{size}
use Rattle.legality.specs.Flags.{MayHoldFlag}
use Rattle.legality.proofs.flag.finds_flag.Given as goal

abbrev pub invariant-loop-at : goal.invariant-loop-at
invariant-loop-at l = MayHoldFlag l.rules l.cells l.side l.left

abbrev pub decreases-loop-at : goal.decreases-loop-at
decreases-loop-at l = size l.left
