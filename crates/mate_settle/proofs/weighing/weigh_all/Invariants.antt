use Rattle.std.proofs.Common.{◌≡◌, map, take}
use Rattle.mate_settle.specs.Known.{weighed_of}
use Rattle.mate_settle.proofs.weighing.weigh_all.Given as goal

abbrev pub invariant-loop-i : goal.invariant-loop-i
invariant-loop-i l = map weighed_of l.weighed.items ≡ take l.i l.moves
