-- The squares at the front of a text.
use Rattle.std.specs.Prelude.{ℕ, ◌+◌, ◌-◌, ◌*◌, nat_le, ◌&&◌, ◌==◌, List, [], ◌∷◌, Option, Some, None, if◌then◌else◌}
use Rattle.rules_model.specs.declared.board.Square.{Square}

-- a number below, and what follows it
pub record Front : Type 0 where
  pub value : ℕ
  pub rest : List ℕ

abbrev pub one_digit : ℕ → List ℕ → Option Front
one_digit b rest = if nat_le 49 b && nat_le b 57 then Some (record { value = b - 49; rest = rest }) else None

-- a rank from 0, whose number from 1 to 10 stands at the front
abbrev pub rank_front : List ℕ → Option Front
rank_front [] = None
rank_front (b ∷ []) = one_digit b []
rank_front (b ∷ c ∷ rest) =
    if b == 49 && c == 48 then Some (record { value = 9; rest = rest }) else one_digit b (c ∷ rest)

abbrev pub on_file : ℕ → Option Front → Option Front
on_file file None = None
on_file file (Some rank) = Some (record { value = 12 * rank.value + file; rest = rank.rest })

-- a square: the letter of a file from `a` to `l`, and the number of a rank
unfoldable pub square_front : List ℕ → Option Front
square_front [] = None
square_front (file ∷ text) = if nat_le 97 file && nat_le file 108 then on_file (file - 97) (rank_front text) else None

-- two squares, and what follows them
pub record TwoSquares : Type 0 where
  pub from : Square
  pub to : Square
  pub ending : List ℕ

abbrev pub second_square : ℕ → Option Front → Option TwoSquares
second_square from None = None
second_square from (Some to) =
    Some (record { from = record { 0 = from }; to = record { 0 = to.value }; ending = to.rest })

abbrev pub after_first : Option Front → Option TwoSquares
after_first None = None
after_first (Some from) = second_square from.value (square_front from.rest)

unfoldable pub squares_front : List ℕ → Option TwoSquares
squares_front text = after_first (square_front text)
