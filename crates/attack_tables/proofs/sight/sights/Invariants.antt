use Rattle.std.proofs.Common.{◌≡◌, ℕ, ◌<◌, length, get_or}
use Rattle.attack_tables.specs.declared.sight.Sight.{Sight}
use Rattle.attack_tables.specs.Sights.{IsSightOf}
use Rattle.attack_tables.proofs.sight.sights.Given as goal

abbrev pub invariant-loop-at : goal.invariant-loop-at
invariant-loop-at l = record {
  whole : length l.sights.items ≡ l.at;
  each : (k : ℕ) → k < l.at → (d : Sight) → IsSightOf k (get_or l.sights.items k d);
}
