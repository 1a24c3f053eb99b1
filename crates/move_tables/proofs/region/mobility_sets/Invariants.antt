use Rattle.std.proofs.Common.{◌≡◌, ℕ, ◌<◌, length, get_or}
use Rattle.square_set.specs.declared.Set.{Set}
use Rattle.move_tables.specs.Spots.{IsRegionAt}
use Rattle.move_tables.proofs.region.mobility_sets.Given as goal

abbrev pub invariant-loop-i : goal.invariant-loop-i
invariant-loop-i l = record {
  whole : length l.sets.items ≡ l.i;
  each : (k : ℕ) → k < l.i → (d : Set) → IsRegionAt l.rules k (get_or l.sets.items k d);
}
