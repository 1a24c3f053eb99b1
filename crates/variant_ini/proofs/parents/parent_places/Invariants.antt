use Rattle.std.proofs.Common.{◌≡◌, ◌+◌, ◌<◌, ◌++◌, ℕ, None, length, slice_index_or}
use Rattle.variant_ini.specs.OptionValue.{parent_place}
use Rattle.variant_ini.proofs.parents.parent_places.Given as goal

abbrev pub invariant-loop-place : goal.invariant-loop-place
invariant-loop-place l = record {
  counted : length l.places.items ≡ l.place;
  placed : (k : ℕ) → k < l.place → slice_index_or l.places.items k None ≡ parent_place (l.kept ++ l.new) (length l.kept + k);
}
