use Rattle.std.proofs.Common.{◌≡◌, map, take}
use Rattle.mate_settle.specs.Known.{chosen_of}
use Rattle.mate_settle.proofs.ordering.unranked.Given as goal

abbrev pub invariant-loop-i : goal.invariant-loop-i
invariant-loop-i l = l.moves.items ≡ map chosen_of (take l.i l.ranked)
