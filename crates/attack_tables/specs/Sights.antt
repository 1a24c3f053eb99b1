-- What is seen from a square along its file.
use Rattle.std.specs.Prelude.{◌≡◌, ℕ, ◌%◌, ◌<◌, nat_lt, Bool, true, false, ◌&&◌, ◌||◌, ◌==◌, List, slice_index_or, length}
use Rattle.square_set.specs.declared.Set.{Set}
use Rattle.square_set.specs.Members.{has, before}
use Rattle.move_tables.specs.Lines.{in_both}
use Rattle.attack_tables.specs.declared.sight.Sight.{Sight}

-- a square of the file above the square, or below it
abbrev pub is_above : ℕ → ℕ → Bool
is_above at s = (s % 12 == at % 12) && nat_lt at s

abbrev pub is_below : ℕ → ℕ → Bool
is_below at s = (s % 12 == at % 12) && nat_lt s at

-- the sets are those squares
pub record IsSightOf (at : ℕ) (sight : Sight) : Type 0 where
  pub above : (s : ℕ) → has sight.above s ≡ (nat_lt s 120 && is_above at s)
  pub below : (s : ℕ) → has sight.below s ≡ (nat_lt s 120 && is_below at s)

-- a sight for each square
pub record AreSights (sights : List Sight) : Type 0 where
  pub whole : length sights ≡ 120
  pub each : (i : ℕ) → i < 120 → (d : Sight) → IsSightOf i (slice_index_or sights i d)

-- up to the first occupied square above and below
abbrev pub sees : Sight → Set → ℕ → Bool
sees sight occupied s =
    (has sight.above s && (before true (in_both sight.above occupied) s == 0))
    || (has sight.below s && (before false (in_both sight.below occupied) s == 0))
