use Rattle.std.proofs.Common.{◌≡◌, ℕ, ◌<◌, ◌/◌, ◌%◌, length, get_or}
use Rattle.square_set.specs.declared.Set.{Set}
use Rattle.move_tables.specs.Spots.{side_of}
use Rattle.attack_tables.specs.Masks.{IsMaskBelow}
use Rattle.attack_tables.proofs.masks.masks.Given as goal

abbrev pub invariant-loop-i : goal.invariant-loop-i
invariant-loop-i l = record {
  whole : length l.masks.items ≡ l.i;
  each : (k : ℕ) → k < l.i → (d : Set) → IsMaskBelow l.moves (side_of (k / 120)) 120 (k % 120) (get_or l.masks.items k d);
}
