use Rattle.std.proofs.Common.{take}
use Rattle.std.specs.List.{list_any}
use Rattle.move_tables.specs.Lines.{on_line}
use Rattle.pins.specs.Evasion.{DependsOn}
use Rattle.pins.proofs.evasion.lines_way.Given as goal

abbrev pub invariant-loop-line : goal.invariant-loop-line
invariant-loop-line l = DependsOn (λ set. list_any (λ line. on_line line set l.target) (take l.line-index l.lines)) l.way
