-- The moves of the chess pawn, without gating.
use Rattle.std.specs.Prelude.{◌≡◌, Bool, true, false, Some, None}
use Rattle.rules_model.specs.declared.board.Repeat.{Repeat}
use Rattle.rules_model.specs.declared.moves.Move.{Move}
use Rattle.rules_model.specs.declared.moves.Move.TheVariants.{Go, Castle, Drop}
use Rattle.rules_model.specs.declared.rules.Rules.{Rules}
use Rattle.rules_model.specs.Candidates.{own_pawn_moves}
use Rattle.rules_model.specs.Moves.{IsFitMove}
use Rattle.rules_model.specs.Squares.{cell_at}

-- a move of an own pawn
unfoldable pub is_pawn_move : Rules → Repeat → Move → Bool
is_pawn_move rules r (Go from to promo None) = own_pawn_moves rules r from to promo (cell_at r.cells from.0)
is_pawn_move rules r (Go from to promo (Some kind)) = false
is_pawn_move rules r (Castle from to rook gate) = false
is_pawn_move rules r (Drop kind to) = false

-- a fit move of an own pawn
abbrev pub FitPawnMoves : Rules → Repeat → Move → Type 0
FitPawnMoves rules r m = IsFitMove m × (is_pawn_move rules r m ≡ true)
