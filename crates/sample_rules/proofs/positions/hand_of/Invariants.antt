-- the counts so far are written
use Rattle.std.proofs.Common.{◌≡◌, ℕ, ◌<◌, length, get_or}
use Rattle.sample_rules.specs.Positions.{held}
use Rattle.sample_rules.proofs.positions.hand_of.Given as goal

abbrev pub invariant-loop-k : goal.invariant-loop-k
invariant-loop-k l = record { full : length l.hand ≡ 26; written : (k : ℕ) → k < l.k → get_or l.hand k 0 ≡ held l.letters k }
