-- The squares from which a square may ever be taken on.
use Rattle.std.specs.Prelude.{◌≡◌, ℕ, ◌/◌, ◌%◌, ◌<◌, false, Option, List, slice_index_or, length}
use Rattle.rules_model.specs.declared.board.Cell.{Cell}
use Rattle.rules_model.specs.declared.board.Side.{Side}
use Rattle.rules_model.specs.declared.rules.Rules.{Rules}
use Rattle.square_set.specs.declared.Set.{Set}
use Rattle.square_set.specs.Members.{has}
use Rattle.move_tables.specs.declared.mode.Mode.TheVariants.{Take}
use Rattle.move_tables.specs.Occupied.{IsOccupied}
use Rattle.move_tables.specs.Reached.{reaches_as}
use Rattle.move_tables.specs.Spots.{side_of}

-- the kind takes on the square on no board
abbrev pub NeverTakes : Rules → Side → ℕ → ℕ → ℕ → Type 0
NeverTakes rules side kind from at =
    (occupied : Set) (cells : List (Option Cell)) → IsOccupied occupied cells
    → reaches_as rules cells side (record { 0 = kind }) (record { 0 = from }) Take at ≡ false

-- the kinds below n never take, from the square, on one outside the set
abbrev pub IsRangeOf : Rules → Side → ℕ → ℕ → Set → Type 0
IsRangeOf rules side n from range =
    (kind : ℕ) → kind < n → (at : ℕ) → at < 120 → has range at ≡ false → NeverTakes rules side kind from at

-- from a square below n outside the set no kind ever takes on the square
abbrev pub IsMaskBelow : Rules → Side → ℕ → ℕ → Set → Type 0
IsMaskBelow rules side n at mask =
    (from : ℕ) → from < n → has mask from ≡ false → (kind : ℕ) → kind < 26 → NeverTakes rules side kind from at

-- from a square outside the set no kind ever takes on the square
abbrev pub IsMask : Rules → Side → ℕ → Set → Type 0
IsMask rules side at mask = IsMaskBelow rules side 120 at mask

-- a set for each side and square, in this order
pub record AreRanges (rules : Rules) (ranges : List Set) : Type 0 where
  pub whole : length ranges ≡ 240
  pub each : (i : ℕ) → i < 240 → (d : Set)
      → IsRangeOf rules (side_of (i / 120)) 26 (i % 120) (slice_index_or ranges i d)

pub record AreMasks (rules : Rules) (masks : List Set) : Type 0 where
  pub whole : length masks ≡ 240
  pub each : (i : ℕ) → i < 240 → (d : Set) → IsMask rules (side_of (i / 120)) (i % 120) (slice_index_or masks i d)
