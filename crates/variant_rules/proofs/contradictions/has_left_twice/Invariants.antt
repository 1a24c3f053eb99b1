use Rattle.std.proofs.Common.{◌≡◌, length}
use Rattle.variant_model.specs.Contradictions.{has_left_twice}
use Rattle.variant_rules.proofs.contradictions.has_left_twice.Given as goal

abbrev pub invariant-loop-rest : goal.invariant-loop-rest
invariant-loop-rest l = has_left_twice l.rest ≡ has_left_twice l.pairs

abbrev pub decreases-loop-rest : goal.decreases-loop-rest
decreases-loop-rest l = length l.rest
