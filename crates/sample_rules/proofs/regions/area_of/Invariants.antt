-- the squares so far are written
use Rattle.std.proofs.Common.{◌≡◌, ℕ, ◌<◌, false, length, get_or}
use Rattle.sample_rules.specs.Regions.{is_inside}
use Rattle.sample_rules.proofs.regions.area_of.Given as goal

abbrev pub invariant-loop-at : goal.invariant-loop-at
invariant-loop-at l = record { full : length l.squares ≡ 120; written : (k : ℕ) → k < l.at → get_or l.squares k false ≡ is_inside l.bounds k }
