use Rattle.std.proofs.Common.{take}
use Rattle.std.specs.List.{list_any}
use Rattle.move_tables.specs.Lines.{by_jump}
use Rattle.pins.specs.Evasion.{DependsOn}
use Rattle.pins.proofs.evasion.jumps_way.Given as goal

abbrev pub invariant-loop-jump : goal.invariant-loop-jump
invariant-loop-jump l = DependsOn (λ set. list_any (λ jump. by_jump jump set l.target) (take l.jump-index l.jumps)) l.way
