use Rattle.std.proofs.Common.{◌≡◌, take}
use Rattle.game_line.proofs.line.Line.copied.Given as goal

abbrev pub invariant-loop-m : goal.invariant-loop-m
invariant-loop-m l = l.copy ≡ record { rules = l.self.rules; base = l.self.base; moves = take l.m-index l.m-items; room = l.self.room }
