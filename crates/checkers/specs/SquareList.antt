-- Lists of squares, and their text.
use Rattle.std.specs.Prelude.{ℕ, Bool, List, [], ◌∷◌, filter, codes}
use Rattle.std.specs.List.{flat_map, range_with_len}
use Rattle.rules_model.specs.MoveText.{square_text}

-- the squares that pass a test, in the order of their index
abbrev pub squares_where : (ℕ → Bool) → List ℕ
squares_where test = filter test (range_with_len 0 120)

-- a square after a blank
abbrev pub blank_square : ℕ → List ℕ
blank_square s = 32 ∷ square_text (record { 0 = s })

-- squares, each after a blank, and a dash for none
abbrev pub listed : List ℕ → List ℕ
listed [] = codes " -"
listed (s ∷ squares) = flat_map blank_square (s ∷ squares)
