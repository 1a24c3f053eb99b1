use Rattle.std.proofs.Common.{take}
use Rattle.game_line.specs.Slots.{AreCounts}
use Rattle.game_line.proofs.slots.Slots.of.Given as goal

abbrev pub invariant-loop-key : goal.invariant-loop-key
invariant-loop-key l = AreCounts (take l.key-index l.keys) l.slots
