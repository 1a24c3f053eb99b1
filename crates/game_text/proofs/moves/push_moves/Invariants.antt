use Rattle.std.proofs.Common.{◌≡◌, ◌++◌, take}
use Rattle.std.specs.List.{flat_map}
use Rattle.game_text.specs.MovesText.{move_line}
use Rattle.game_text.proofs.moves.push_moves.Given as goal

abbrev pub invariant-loop-m : goal.invariant-loop-m
invariant-loop-m l = l.text.items ≡ l.initial.text.items ++ flat_map move_line (take l.m-index l.moves)
