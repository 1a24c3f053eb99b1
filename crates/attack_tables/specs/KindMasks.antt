-- For each kind the squares from which it may ever take on a square.
use Rattle.std.specs.Prelude.{◌≡◌, ℕ, ◌/◌, ◌%◌, ◌<◌, false, List, slice_index_or, length}
use Rattle.rules_model.specs.declared.board.Side.{Side}
use Rattle.rules_model.specs.declared.rules.Rules.{Rules}
use Rattle.square_set.specs.declared.Set.{Set}
use Rattle.square_set.specs.Members.{has}
use Rattle.move_tables.specs.Spots.{side_of}
use Rattle.attack_tables.specs.Masks.{NeverTakes}

-- from a square outside the set the kind never takes on the square
abbrev pub IsKindMask : Rules → Side → ℕ → ℕ → Set → Type 0
IsKindMask rules side kind at mask = (from : ℕ) → from < 120 → has mask from ≡ false → NeverTakes rules side kind from at

-- a set for each side, square and kind, in this order
pub record AreKindMasks (rules : Rules) (masks : List Set) : Type 0 where
  pub whole : length masks ≡ 6240
  pub each : (i : ℕ) → i < 6240 → (d : Set)
      → IsKindMask rules (side_of (i / 26 / 120)) (i % 26) (i / 26 % 120) (slice_index_or masks i d)
