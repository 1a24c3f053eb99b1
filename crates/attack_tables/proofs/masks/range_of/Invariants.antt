use Rattle.attack_tables.specs.Masks.{IsRangeOf}
use Rattle.attack_tables.proofs.masks.range_of.Given as goal

abbrev pub invariant-loop-kind : goal.invariant-loop-kind
invariant-loop-kind l = IsRangeOf l.moves l.side l.kind l.from l.range
