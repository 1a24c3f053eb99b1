use Rattle.attack_tables.specs.PawnMasks.{HasPawnShifts}
use Rattle.attack_tables.proofs.pawns.spotted_masks.Given as goal

abbrev pub invariant-loop-from : goal.invariant-loop-from
invariant-loop-from l = HasPawnShifts l.masks
