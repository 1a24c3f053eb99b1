use Rattle.std.proofs.Common.{take}
use Rattle.std.specs.List.{list_any}
use Rattle.move_tables.specs.Lines.{on_line}
use Rattle.pins.specs.Guards.{Guards}
use Rattle.pins.proofs.guards.along.Given as goal

abbrev pub invariant-loop-line : goal.invariant-loop-line
invariant-loop-line l = Guards (λ occupied. list_any (λ line. on_line line occupied l.target) (take l.line-index l.lines)) l.occupied l.guards
