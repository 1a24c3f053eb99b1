-- Pieces by their letters.
use Rattle.std.specs.Prelude.{ℕ, ◌-◌, nat_le, Bool, true, ◌&&◌, if◌then◌else◌, List, [], ◌∷◌, map, Option, Some, None, slice_index}
use Rattle.std.specs.List.{range_with_len}
use Rattle.rules_model.specs.declared.board.Cell.{Cell}
use Rattle.rules_model.specs.declared.board.Side.{Side}
use Rattle.rules_model.specs.declared.board.Side.TheVariants.{White, Black}
use Rattle.sample_rules.specs.Regions.{is_listed}

abbrev pub man : Side → ℕ → Option Cell
man side k = Some (record { side = side; kind = record { 0 = k }; origin = None })

-- a capital letter is a piece of White's, a small one of Black's
abbrev pub piece_of : ℕ → Option Cell
piece_of letter =
    if nat_le 65 letter && nat_le letter 90 then man White (letter - 65)
    else if nat_le 97 letter && nat_le letter 122 then man Black (letter - 97)
    else None

abbrev pub cell_at : List ℕ → ℕ → Option Cell
cell_at diagram s = piece_of (slice_index diagram s)

-- the pieces of a diagram of twelve signs a rank
unfoldable pub cells_of : List ℕ → List (Option Cell)
cells_of diagram = map (cell_at diagram) (range_with_len 0 120)

abbrev pub all_rights : List (List Bool)
all_rights = (true ∷ true ∷ []) ∷ (true ∷ true ∷ []) ∷ []

-- one piece of each of the kinds
abbrev pub held : List ℕ → ℕ → ℕ
held letters k = if is_listed letters k then 1 else 0

unfoldable pub hand_of : List ℕ → List ℕ
hand_of letters = map (held letters) (range_with_len 0 26)
