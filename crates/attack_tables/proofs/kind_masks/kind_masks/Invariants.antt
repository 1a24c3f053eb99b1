use Rattle.std.proofs.Common.{◌≡◌, ℕ, ◌<◌, ◌/◌, ◌%◌, length, get_or}
use Rattle.square_set.specs.declared.Set.{Set}
use Rattle.move_tables.specs.Spots.{side_of}
use Rattle.attack_tables.specs.KindMasks.{IsKindMask}
use Rattle.attack_tables.proofs.kind_masks.kind_masks.Given as goal

abbrev pub invariant-loop-i : goal.invariant-loop-i
invariant-loop-i l = record {
  whole : length l.all.items ≡ l.i;
  each : (k : ℕ) → k < l.i → (d : Set) → IsKindMask l.moves (side_of (k / 26 / 120)) (k % 26) (k / 26 % 120) (get_or l.all.items k d);
}
