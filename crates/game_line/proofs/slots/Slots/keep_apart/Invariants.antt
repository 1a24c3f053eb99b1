use Rattle.std.proofs.Common.{take}
use Rattle.game_line.specs.Slots.{AreApart}
use Rattle.game_line.proofs.slots.Slots.keep_apart.Given as goal

abbrev pub invariant-loop-i : goal.invariant-loop-i
invariant-loop-i l = AreApart (take l.i l.keys)
