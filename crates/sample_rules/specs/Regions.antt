-- Sets of squares and of kinds.
use Rattle.std.specs.Prelude.{ℕ, ◌+◌, ◌/◌, ◌%◌, ◌==◌, nat_lt, nat_le, Bool, false, ◌&&◌, List, map, replicate}
use Rattle.std.specs.List.{list_any, range_with_len}
use Rattle.rules_model.specs.declared.board.Region.{Region}
use Rattle.sample_rules.specs.declared.regions.Bounds.{Bounds}

-- the square is on one of the files and ranks
abbrev pub is_inside : Bounds → ℕ → Bool
is_inside bounds s =
    nat_le bounds.left (s % 12) && nat_lt (s % 12) bounds.right && nat_le bounds.low (s / 12)
    && nat_lt (s / 12) bounds.high

unfoldable pub area_of : Bounds → Region
area_of bounds = record { squares = map (is_inside bounds) (range_with_len 0 120) }

abbrev pub area : ℕ → ℕ → ℕ → ℕ → Region
area left right low high = area_of (record { left = left; right = right; low = low; high = high })

abbrev pub nowhere : Region
nowhere = record { squares = replicate 120 false }

-- the kind's letter is one of these
abbrev pub is_listed : List ℕ → ℕ → Bool
is_listed letters k = list_any (λ letter. letter == 97 + k) letters

unfoldable pub mask_of : List ℕ → List Bool
mask_of letters = map (is_listed letters) (range_with_len 0 26)
