use Rattle.std.proofs.Common.{◌≡◌, map, take}
use Rattle.mate_settle.specs.Known.{chosen_of}
use Rattle.mate_settle.proofs.ordering.ranked_moves.Given as goal

abbrev pub invariant-loop-i : goal.invariant-loop-i
invariant-loop-i l = map chosen_of l.ranked.items ≡ take l.i l.moves
