-- The pieces that attack the king of a side (FIDE Laws of Chess, article 3.9).
use Rattle.std.specs.Prelude.{ℕ, ◌+◌, ◌≤◌, Bool, ◌&&◌, ◌||◌, List, [], ◌∷◌, Option, ⊤}
use Rattle.foundation.specs.Count.{any_below}
use Rattle.rules_model.specs.declared.board.Cell.{Cell}
use Rattle.rules_model.specs.declared.board.Side.{Side}
use Rattle.rules_model.specs.declared.rules.Rules.{Rules}
use Rattle.rules_model.specs.Attacks.{attacks_from, is_own_king, king_faces}
use Rattle.rules_model.specs.Sides.{other}
use Rattle.rules_model.specs.Squares.{cell_at}
use Rattle.checkers.specs.SquareList.{squares_where}

-- a king of the side stands on `to`, and the other side's piece on `from` attacks it, or is a flying king that faces it
unfoldable pub attacks_king_on : Rules → List (Option Cell) → Side → ℕ → ℕ → Bool
attacks_king_on rules cells side from to =
    is_own_king rules side (cell_at cells to)
    && (attacks_from rules cells (other side) to from || (rules.flying && king_faces rules cells (other side) to from))

-- the other side's piece on `from` attacks a king of the side
unfoldable pub is_checker : Rules → List (Option Cell) → Side → ℕ → Bool
is_checker rules cells side from = any_below (attacks_king_on rules cells side from) 120

-- the squares of these pieces, in order
abbrev pub checkers : Rules → List (Option Cell) → Side → List ℕ
checkers rules cells side = squares_where (is_checker rules cells side)

-- each number is at least this one and the numbers before it, and unlike them
abbrev pub IsAscendingFrom : ℕ → List ℕ → Type 0
IsAscendingFrom least [] = ⊤
IsAscendingFrom least (s ∷ squares) = (least ≤ s) × IsAscendingFrom (s + 1) squares

abbrev pub IsAscending : List ℕ → Type 0
IsAscending squares = IsAscendingFrom 0 squares
