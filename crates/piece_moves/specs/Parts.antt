-- The parts of the moves that are given in turn.
use Rattle.std.specs.Prelude.{◌≡◌, ◌<◌, true, Option}
use Rattle.rules_model.specs.declared.board.Kind.{Kind}
use Rattle.rules_model.specs.declared.board.Repeat.{Repeat}
use Rattle.rules_model.specs.declared.board.Square.{Square}
use Rattle.rules_model.specs.declared.moves.Move.{Move}
use Rattle.rules_model.specs.declared.moves.Move.TheVariants.{Go, Castle, Drop}
use Rattle.rules_model.specs.declared.rules.Rules.{Rules}
use Rattle.rules_model.specs.Candidates.{is_piece_move, own_piece_moves}
use Rattle.rules_model.specs.Moves.{IsFitMove, IsFitPromo}
use Rattle.rules_model.specs.Squares.{cell_at}
use Rattle.square_set.specs.declared.Set.{Set}
use Rattle.square_set.specs.Members.{has}
use Rattle.piece_moves.specs.InTurn.{start_of}

-- an ordinary move of the own piece on the square, which places this there
abbrev pub IsMoveFrom : Rules → Repeat → Square → Option Kind → Move → Type 0
IsMoveFrom rules r from gate (Go f to promo g) =
    (f ≡ from) × (g ≡ gate) × (to.0 < 120) × IsFitPromo promo
    × (own_piece_moves rules r from to promo (cell_at r.cells from.0) ≡ true)
IsMoveFrom rules r from gate (Castle f to rook g) = ⊥
IsMoveFrom rules r from gate (Drop kind to) = ⊥

-- a fit move of a piece
abbrev pub FitPieceMoves : Rules → Repeat → Move → Type 0
FitPieceMoves rules r m = IsFitMove m × (is_piece_move rules r m ≡ true)

-- one that leaves a square of the set
abbrev pub FitMovesFrom : Rules → Repeat → Set → Move → Type 0
FitMovesFrom rules r from m = FitPieceMoves rules r m × (has from (start_of m) ≡ true)
