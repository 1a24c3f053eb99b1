use Rattle.std.proofs.Common.{◌≡◌, ◌++◌, take}
use Rattle.std.specs.List.{flat_map}
use Rattle.checkers.specs.SquareList.{blank_square}
use Rattle.checkers.proofs.list.push_each.Given as goal

abbrev pub invariant-loop-square : goal.invariant-loop-square
invariant-loop-square l = l.text.items ≡ l.initial.text.items ++ flat_map blank_square (take l.square-index l.squares)
