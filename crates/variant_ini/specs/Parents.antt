-- The places of the parents of sections.
use Rattle.std.specs.Prelude.{◌≡◌, ℕ, ◌<◌, ◌+◌, List, Option, None, length, slice_index_or}
use Rattle.variant_ini.specs.Section.{Section}
use Rattle.variant_ini.specs.OptionValue.{parent_place}

-- the list has the place of each section's parent
pub record HasParents (sections : List Section) (places : List (Option ℕ)) : Type 0 where
  pub counted : length places ≡ length sections
  pub placed : (k : ℕ) → k < length places → slice_index_or places k None ≡ parent_place sections k

-- the same for the sections from a place on
pub record HasParentsFrom (start : ℕ) (sections : List Section) (places : List (Option ℕ)) : Type 0 where
  pub counted : start + length places ≡ length sections
  pub placed : (k : ℕ) → k < length places → slice_index_or places k None ≡ parent_place sections (start + k)
