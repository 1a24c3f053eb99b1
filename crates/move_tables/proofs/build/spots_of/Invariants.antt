use Rattle.std.proofs.Common.{◌≡◌, ℕ, ◌<◌, length, get_or}
use Rattle.move_tables.specs.declared.spot.Spot.{Spot}
use Rattle.move_tables.specs.Spots.{IsSpotAt}
use Rattle.move_tables.proofs.build.spots_of.Given as goal

abbrev pub invariant-loop-i : goal.invariant-loop-i
invariant-loop-i l = record {
  whole : length l.spots.items ≡ l.i;
  each : (k : ℕ) → k < l.i → (d : Spot) → IsSpotAt l.rules k (get_or l.spots.items k d);
}
