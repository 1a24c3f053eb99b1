-- How the words of `reach` set up an 8 by 8 board.
use Rattle.std.specs.Prelude.{ℕ, ◌+◌, ◌-◌, ◌*◌, ◌++◌, List, [], ◌∷◌, Option, Some, None, Result, Ok, Err, ◌&&◌, ◌==◌, nat_le, is_some, bytes_eq, codes, replicate, slice_set, if◌then◌else◌}
use Rattle.std.specs.List.{slice_split}
use Rattle.rules_model.specs.declared.board.Cell.{Cell}
use Rattle.rules_model.specs.declared.board.Side.{Side}
use Rattle.rules_model.specs.declared.board.Side.TheVariants.{White, Black}
use Rattle.rules_model.specs.declared.board.Square.{Square}
use Rattle.rules_model.specs.Squares.{cell_at}
use Rattle.words.specs.Command.{no_squares}

-- the square of the board that a text names: a letter from a to h, and a digit from 1 to 8
abbrev pub square_named : List ℕ → Option Square
square_named (file ∷ rank ∷ []) =
    if nat_le 97 file && nat_le file 104 && nat_le 49 rank
    && nat_le rank 56 then Some (record { 0 = 12 * (rank - 49) + (file - 97) }) else None
square_named text = None

-- why no piece is put where a text says
pub data Unplaced : Type 0 where
  -- the text names no square of the board
  NoSquare : List ℕ → Unplaced
  -- a piece stands there already
  Taken : List ℕ → Unplaced

-- a piece of the side, of a kind that does not matter
abbrev pub piece_of : Side → Cell
piece_of side = record { side = side; kind = record { 0 = 0 }; origin = None }

-- the piece that moves, alone
unfoldable pub piece_on : Square → List (Option Cell)
piece_on from = slice_set (replicate 120 None) from.0 (Some (piece_of White))

abbrev pub placed_on : Side → List ℕ → List (Option Cell) → Option Square → Result (List (Option Cell)) Unplaced
placed_on side text cells None = Err (NoSquare text)
placed_on side text cells (Some s) =
    if is_some (cell_at cells s.0) then Err (Taken text) else Ok (slice_set cells s.0 (Some (piece_of side)))

-- with a piece of the side on the square that the text names
unfoldable pub placed : Side → List (Option Cell) → List ℕ → Result (List (Option Cell)) Unplaced
placed side cells text = placed_on side text cells (square_named text)

abbrev pub and_then : Result (List (Option Cell)) Unplaced → (List (Option Cell) → Result (List (Option Cell)) Unplaced)
    → Result (List (Option Cell)) Unplaced
and_then (Ok cells) next = next cells
and_then (Err why) next = Err why

-- with a piece on each square that the texts name, from left to right
unfoldable pub placed_all : Side → List (List ℕ) → List (Option Cell) → Result (List (Option Cell)) Unplaced
placed_all side [] cells = Ok cells
placed_all side (text ∷ texts) cells = and_then (placed side cells text) (placed_all side texts)

-- the texts of a list: the parts before, between and after its commas, or none of them
unfoldable pub texts_of : List ℕ → List (List ℕ)
texts_of list = if bytes_eq list no_squares then [] else slice_split (λ b. b == 44) list

abbrev pub with_from : Square → Result (List (Option Cell)) Unplaced → Result (Square × List (Option Cell)) Unplaced
with_from from (Ok cells) = Ok (from, cells)
with_from from (Err why) = Err why

abbrev pub setup_at : List ℕ → List ℕ → List ℕ → Option Square → Result (Square × List (Option Cell)) Unplaced
setup_at square own enemy None = Err (NoSquare square)
setup_at square own enemy (Some from) =
    with_from from (and_then (placed_all White (texts_of own) (piece_on from)) (placed_all Black (texts_of enemy)))

-- the square of the piece that moves, and the board with it and the pieces of both lists
unfoldable pub setup_of : List ℕ → List ℕ → List ℕ → Result (Square × List (Option Cell)) Unplaced
setup_of square own enemy = setup_at square own enemy (square_named square)

-- a text that names no square, or one on which a piece stands already
abbrev pub unplaced_text : Unplaced → List ℕ
unplaced_text (NoSquare text) = codes "ReachFault 1 BadSquare " ++ text
unplaced_text (Taken text) = codes "ReachFault 2 SquareTwice " ++ text
