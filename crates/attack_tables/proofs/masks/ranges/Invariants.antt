use Rattle.std.proofs.Common.{◌≡◌, ℕ, ◌<◌, ◌/◌, ◌%◌, length, get_or}
use Rattle.square_set.specs.declared.Set.{Set}
use Rattle.move_tables.specs.Spots.{side_of}
use Rattle.attack_tables.specs.Masks.{IsRangeOf}
use Rattle.attack_tables.proofs.masks.ranges.Given as goal

abbrev pub invariant-loop-i : goal.invariant-loop-i
invariant-loop-i l = record {
  whole : length l.ranges.items ≡ l.i;
  each : (k : ℕ) → k < l.i → (d : Set) → IsRangeOf l.moves (side_of (k / 120)) 26 (k % 120) (get_or l.ranges.items k d);
}
