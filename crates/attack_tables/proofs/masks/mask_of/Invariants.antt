use Rattle.attack_tables.specs.Masks.{IsMaskBelow}
use Rattle.attack_tables.proofs.masks.mask_of.Given as goal

abbrev pub invariant-loop-from : goal.invariant-loop-from
invariant-loop-from l = IsMaskBelow l.moves l.side l.from l.at l.mask
