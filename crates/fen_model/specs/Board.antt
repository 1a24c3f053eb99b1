-- The placement: what stands on each square.
use Rattle.std.specs.Prelude.{ℕ, ◌+◌, ◌*◌, ◌/◌, ◌%◌, ◌-◌, Bool, true, false, ◌&&◌, ◌==◌, List, [], ◌∷◌, ◌++◌, Option, Some, None, Result, Ok, Err, if◌then◌else◌, length, replicate, reverse, map, slice_index_or}
use Rattle.std.specs.List.{slice_split, range_with_len}
use Rattle.rules_model.specs.declared.board.Cell.{Cell}
use Rattle.rules_model.specs.declared.board.Kind.{Kind}
use Rattle.rules_model.specs.declared.board.Side.{Side}
use Rattle.rules_model.specs.declared.rules.Rules.{Rules}
use Rattle.rules_model.specs.Kinds.{has_kind, masks, promoted_of}
use Rattle.fen_model.specs.declared.fault.FenFault.{FenFault}
use Rattle.fen_model.specs.declared.fault.FenFault.TheVariants.{Rank, Letter, Width}
use Rattle.fen_model.specs.Chain.{◌>>=◌}
use Rattle.foundation.specs.Numbers.{value_of, begins_with_zero}
use Rattle.fen_model.specs.Tokens.{Token, run, piece, tilde, stray, letter_kind, letter_side, tokens_of}

-- ---- one piece

abbrev pub cell_of : Side → Kind → Option Kind → Cell
cell_of side kind origin = record { side = side; kind = kind; origin = origin }

-- a piece of the kind, where the variant has it
abbrev pub plain_cell : Rules → Side → Kind → Option Cell
plain_cell rules side kind = if has_kind rules kind then Some (cell_of side kind None) else None

-- the promoted kind of an origin
abbrev pub promoted_cell : Rules → Side → Kind → Option Kind → Option Cell
promoted_cell rules side origin None = None
promoted_cell rules side origin (Some kind) = Some (cell_of side kind (Some origin))

-- a promoted pawn, of a kind that pawns become, where takings go to hands
abbrev pub pawn_cell : Rules → Side → Kind → Option Kind → Option Cell
pawn_cell rules side kind None = None
pawn_cell rules side kind (Some pawn) =
    if rules.to_hand && has_kind rules kind
    && masks rules.promotion_kinds kind then Some (cell_of side kind (Some pawn)) else None

-- the piece of a letter with its marks: no letter has both
abbrev pub marked_cell : Rules → Bool → Side → Kind → Bool → Option Cell
marked_cell rules false side kind false = plain_cell rules side kind
marked_cell rules true side kind false = promoted_cell rules side kind (promoted_of rules kind)
marked_cell rules false side kind true = pawn_cell rules side kind rules.pawn
marked_cell rules true side kind true = None

-- ---- one rank

-- an empty square for each that the run counts; the number does not begin with 0
abbrev pub run_squares : List ℕ → Result (List (Option Cell)) FenFault
run_squares digits = if begins_with_zero digits then Err Width else Ok (replicate (value_of digits) None)

abbrev pub one_square : Option Cell → Result (List (Option Cell)) FenFault
one_square None = Err Letter
one_square (Some c) = Ok (Some c ∷ [])

-- the squares that a token says
abbrev pub token_squares : Rules → Token → Result (List (Option Cell)) FenFault
token_squares rules (run digits) = run_squares digits
token_squares rules (piece before c after) = one_square (marked_cell rules before (letter_side c) (letter_kind c) after)
token_squares rules tilde = Err Letter
token_squares rules stray = Err Letter

-- those of the tokens, from left to right, or their first fault
unfoldable pub squares_of : Rules → List Token → Result (List (Option Cell)) FenFault
squares_of rules [] = Ok []
squares_of rules (token ∷ tokens) = do
  squares ← token_squares rules token
  others ← squares_of rules tokens
  Ok (squares ++ others)

-- a row has a square for each file
abbrev pub sized : Rules → List (Option Cell) → Result (List (Option Cell)) FenFault
sized rules squares = if length squares == rules.files then Ok squares else Err Width

-- the squares of a rank, from the first file on
unfoldable pub row_of : Rules → List ℕ → Result (List (Option Cell)) FenFault
row_of rules text = do
  squares ← squares_of rules (tokens_of text)
  sized rules squares

-- ---- the board

-- the rows of the ranks in their order, or the first fault
unfoldable pub rows_of : Rules → List (List ℕ) → Result (List (List (Option Cell))) FenFault
rows_of rules [] = Ok []
rows_of rules (rank ∷ ranks) = do
  row ← row_of rules rank
  rows ← rows_of rules ranks
  Ok (row ∷ rows)

-- what the rows say of a square; the first row is that of the highest rank
abbrev pub said_at : List (List (Option Cell)) → ℕ → Option Cell
said_at rows s = slice_index_or (slice_index_or (reverse rows) (s / 12) []) (s % 12) None

-- the cells that the rows say: off the board nothing stands
unfoldable pub cells_from : List (List (Option Cell)) → List (Option Cell)
cells_from rows = map (said_at rows) (range_with_len 0 120)

abbrev pub is_slash : ℕ → Bool
is_slash b = b == 47

abbrev pub ranks_of : Rules → List (List ℕ) → Result (List (List (Option Cell))) FenFault
ranks_of rules ranks = if length ranks == rules.ranks then rows_of rules ranks else Err Rank

-- the cells that a placement says: its ranks, from the highest on, are separated by `/`
unfoldable pub cells_of : Rules → List ℕ → Result (List (Option Cell)) FenFault
cells_of rules board = do
  rows ← ranks_of rules (slice_split is_slash board)
  Ok (cells_from rows)

-- ---- the rows of a board

-- the squares of so many files of a rank
unfoldable pub row_at : List (Option Cell) → ℕ → ℕ → List (Option Cell)
row_at cells rank files = map (λ file. slice_index_or cells (12 * rank + file) None) (range_with_len 0 files)

-- so many rows of a board of so many ranks, from the highest on
unfoldable pub rows_at : Rules → List (Option Cell) → ℕ → List (List (Option Cell))
rows_at rules cells n = map (λ k. row_at cells (rules.ranks - 1 - k) rules.files) (range_with_len 0 n)
