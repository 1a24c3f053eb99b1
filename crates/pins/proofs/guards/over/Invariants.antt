use Rattle.std.proofs.Common.{take}
use Rattle.std.specs.List.{list_any}
use Rattle.move_tables.specs.Lines.{by_jump}
use Rattle.pins.specs.Guards.{Guards}
use Rattle.pins.proofs.guards.over.Given as goal

abbrev pub invariant-loop-jump : goal.invariant-loop-jump
invariant-loop-jump l = Guards (λ occupied. list_any (λ jump. by_jump jump occupied l.target) (take l.jump-index l.jumps)) l.occupied l.guards
