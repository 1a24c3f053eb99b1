use Rattle.std.proofs.Common.{◌≡◌, ℕ, ◌<◌, false, length, get_or}
use Rattle.std.specs.List.{list_any}
use Rattle.variant_options.specs.Readings.{covers}
use Rattle.variant_options.proofs.readings.region_of.Given as goal

abbrev pub invariant-loop-s : goal.invariant-loop-s
invariant-loop-s l = (length l.squares ≡ 120) × ((k : ℕ) → k < l.s → get_or l.squares k false ≡ list_any (λ area. covers area k) l.areas)
