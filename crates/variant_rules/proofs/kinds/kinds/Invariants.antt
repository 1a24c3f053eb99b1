use Rattle.std.proofs.Common.{◌≡◌, ℕ, ◌<◌, None, length, get_or}
use Rattle.variant_rules.specs.Said.{resolved_at, rule_at}
use Rattle.variant_rules.proofs.kinds.kinds.Given as goal

abbrev pub invariant-loop-k : goal.invariant-loop-k
invariant-loop-k l = (length l.kinds ≡ 26) × ((k : ℕ) → k < l.k → get_or l.kinds k None ≡ rule_at (resolved_at l.section) k)
