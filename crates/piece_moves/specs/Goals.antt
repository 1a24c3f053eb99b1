-- Where an own piece that is not the pawn may land.
use Rattle.std.specs.Prelude.{Bool, false, ◌&&◌, not, if◌then◌else◌, Option, Some, None, List, ℕ}
use Rattle.rules_model.specs.declared.board.Cell.{Cell}
use Rattle.rules_model.specs.declared.board.Repeat.{Repeat}
use Rattle.rules_model.specs.declared.board.Side.{Side}
use Rattle.rules_model.specs.declared.board.Square.{Square}
use Rattle.rules_model.specs.declared.moves.Promo.{Promo}
use Rattle.rules_model.specs.declared.rules.Rules.{Rules}
use Rattle.rules_model.specs.Kinds.{is_pawn}
use Rattle.rules_model.specs.Pieces.{piece_moves}
use Rattle.rules_model.specs.Sides.{same_side}
use Rattle.rules_model.specs.Squares.{cell_at}
use Rattle.move_tables.specs.declared.mode.Mode.TheVariants.{Quiet, Take}
use Rattle.move_tables.specs.Reached.{reaches_in}

-- the piece, where it is the side's and not the pawn
abbrev pub own_piece : Rules → Side → Option Cell → Option Cell
own_piece rules side None = None
own_piece rules side (Some c) = if same_side c.side side && not (is_pawn rules c.kind) then Some c else None

-- by what stands on the square: an empty one that is reached quietly, or an enemy's that is reached to take
abbrev pub lands : Side → Option Cell → Bool → Bool → Bool
lands side None quiet takes = quiet
lands side (Some c) quiet takes = not (same_side c.side side) && takes

abbrev pub lands_on : Rules → List (Option Cell) → Side → Square → ℕ → Bool
lands_on rules cells side from to =
    lands side (cell_at cells to) (reaches_in rules cells from Quiet to) (reaches_in rules cells from Take to)

-- where there is such a piece, it makes the move
abbrev pub makes : Rules → Repeat → Option Cell → Square → Square → Promo → Bool
makes rules r None from to promo = false
makes rules r (Some c) from to promo = piece_moves rules r c from to promo
