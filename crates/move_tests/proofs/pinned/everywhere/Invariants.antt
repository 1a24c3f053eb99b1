use Rattle.square_set.specs.Members.{OnSquares}
use Rattle.move_tests.proofs.pinned.everywhere.Given as goal

abbrev pub invariant-loop-at : goal.invariant-loop-at
invariant-loop-at l = OnSquares l.squares
