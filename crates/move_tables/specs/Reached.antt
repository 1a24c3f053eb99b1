-- The squares that a piece reaches in a position by its terms of a mode.
use Rattle.std.specs.Prelude.{◌≡◌, ℕ, Bool, false, if◌then◌else◌, Option, Some, None, List}
use Rattle.rules_model.specs.declared.board.BoardSize.{BoardSize}
use Rattle.rules_model.specs.declared.board.Cell.{Cell}
use Rattle.rules_model.specs.declared.board.Kind.{Kind}
use Rattle.rules_model.specs.declared.board.Side.{Side}
use Rattle.rules_model.specs.declared.board.Square.{Square}
use Rattle.rules_model.specs.declared.rules.Rules.{Rules}
use Rattle.rules_model.specs.declared.rules.Term.{Term}
use Rattle.rules_model.specs.Attacks.{is_diagonal}
use Rattle.rules_model.specs.Kinds.{board_of, is_pawn}
use Rattle.rules_model.specs.Movement.{kind_reaches}
use Rattle.rules_model.specs.Squares.{cell_at}
use Rattle.square_set.specs.declared.Set.{Set}
use Rattle.square_set.specs.Members.{has}
use Rattle.move_tables.specs.declared.mode.Mode.{Mode}
use Rattle.move_tables.specs.declared.mode.Mode.TheVariants.{Quiet, Take}
use Rattle.move_tables.specs.Occupied.{IsOccupied}

-- the term is one of the mode
abbrev pub serves : Mode → Term → Bool
serves Quiet t = t.quiet
serves Take t = t.takes

-- the pawn's two diagonals for Take, and none for Quiet
abbrev pub pawn_reaches : BoardSize → Side → Square → Mode → ℕ → Bool
pawn_reaches board side from Quiet to = false
pawn_reaches board side from Take to = is_diagonal board side from to

-- as a piece of the kind: the pawn diagonally, the others by their terms, within their region
abbrev pub reaches_as : Rules → List (Option Cell) → Side → Kind → Square → Mode → ℕ → Bool
reaches_as rules cells side kind from mode to =
    if is_pawn rules kind then pawn_reaches (board_of rules) side from mode to
    else kind_reaches rules cells side kind (serves mode) from to

abbrev pub piece_reaches : Rules → List (Option Cell) → Square → Mode → ℕ → Option Cell → Bool
piece_reaches rules cells from mode to None = false
piece_reaches rules cells from mode to (Some c) = reaches_as rules cells c.side c.kind from mode to

-- on each board with these occupied squares, the set is that of the squares that are reached in the mode
abbrev pub AreReached : Rules → Side → Kind → Square → Mode → Set → Set → Type 0
AreReached rules side kind from mode occupied set =
    (cells : List (Option Cell)) → IsOccupied occupied cells
    → (t : ℕ) → has set t ≡ reaches_as rules cells side kind from mode t

-- what stands on `from` reaches `to` in the mode; where nothing stands it is no square
unfoldable pub reaches_in : Rules → List (Option Cell) → Square → Mode → ℕ → Bool
reaches_in rules cells from mode to = piece_reaches rules cells from mode to (cell_at cells from.0)
