use Rattle.std.proofs.Common.{◌≡◌, length}
use Rattle.hint_table.proofs.HintTable.new.Given as goal

-- a cell for each turn
abbrev pub invariant-loop : goal.invariant-loop
invariant-loop l = length l.cells.items ≡ l.counter
