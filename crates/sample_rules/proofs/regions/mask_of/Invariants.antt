-- the kinds so far are written
use Rattle.std.proofs.Common.{◌≡◌, ℕ, ◌<◌, false, length, get_or}
use Rattle.sample_rules.specs.Regions.{is_listed}
use Rattle.sample_rules.proofs.regions.mask_of.Given as goal

abbrev pub invariant-loop-k : goal.invariant-loop-k
invariant-loop-k l = record { full : length l.mask ≡ 26; written : (k : ℕ) → k < l.k → get_or l.mask k false ≡ is_listed l.letters k }
