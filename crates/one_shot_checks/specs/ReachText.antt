-- What `reach` prints: the squares of an 8 by 8 board that a piece reaches.
use Rattle.std.specs.Prelude.{ℕ, List, ◌++◌, Option, Some, None, Bool, true, false, ◌&&◌, is_none, codes}
use Rattle.std.specs.List.{list_any}
use Rattle.rules_model.specs.declared.board.BoardSize.{BoardSize}
use Rattle.rules_model.specs.declared.board.Cell.{Cell}
use Rattle.rules_model.specs.declared.board.Side.{Side}
use Rattle.rules_model.specs.declared.board.Side.TheVariants.{White, Black}
use Rattle.rules_model.specs.declared.board.Square.{Square}
use Rattle.rules_model.specs.declared.rules.Term.{Term}
use Rattle.rules_model.specs.Squares.{cell_at}
use Rattle.rules_model.specs.Reach.{reaches}
use Rattle.checkers.specs.SquareList.{listed, squares_where}

-- the board of the command
abbrev pub chessboard : BoardSize
chessboard = record { files = 8; ranks = 8 }

abbrev pub is_black : Side → Bool
is_black White = false
is_black Black = true

-- a piece of the other side
abbrev pub is_enemy : Option Cell → Bool
is_enemy None = false
is_enemy (Some cell) = is_black cell.side

-- the piece reaches the square by a quiet term
unfoldable pub reaches_quietly : List (Option Cell) → List Term → Square → ℕ → Bool
reaches_quietly cells terms from to = list_any (λ t. t.quiet && reaches chessboard cells White t from to) terms

-- the piece reaches the square by a taking term
unfoldable pub reaches_to_take : List (Option Cell) → List Term → Square → ℕ → Bool
reaches_to_take cells terms from to = list_any (λ t. t.takes && reaches chessboard cells White t from to) terms

-- the square is empty, and the piece reaches it by a quiet term
abbrev pub is_quiet_target : List (Option Cell) → List Term → Square → ℕ → Bool
is_quiet_target cells terms from to = is_none (cell_at cells to) && reaches_quietly cells terms from to

-- an enemy stands on the square, and the piece reaches it by a taking term
abbrev pub is_taking_target : List (Option Cell) → List Term → Square → ℕ → Bool
is_taking_target cells terms from to = is_enemy (cell_at cells to) && reaches_to_take cells terms from to

-- the two lines of `reach`
unfoldable pub reach_text : List (Option Cell) → List Term → Square → List ℕ
reach_text cells terms from =
    codes "quiet" ++ listed (squares_where (is_quiet_target cells terms from))
    ++ codes "\ntake" ++ listed (squares_where (is_taking_target cells terms from)) ++ codes "\n"
