use Rattle.std.proofs.Common.{◌≡◌, ℕ, ◌<◌, false, length, get_or}
use Rattle.variant_options.specs.Letters.{kind}
use Rattle.variant_rules.specs.Said.{held_at, resolved_at}
use Rattle.variant_rules.proofs.kinds.held_letters.Given as goal

abbrev pub invariant-loop-k : goal.invariant-loop-k
invariant-loop-k l = (length l.held ≡ 26) × ((k : ℕ) → k < l.k → get_or l.held k false ≡ held_at (resolved_at l.section) l.mask (kind k))
