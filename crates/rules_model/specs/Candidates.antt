-- The moves that meet the rules of movement, before the safety of kings and the rules of choice are looked at.
use Rattle.std.specs.Prelude.{Bool, false, ◌&&◌, ◌||◌, not, Option, Some, None}
use Rattle.rules_model.specs.declared.board.Cell.{Cell}
use Rattle.rules_model.specs.declared.board.Repeat.{Repeat}
use Rattle.rules_model.specs.declared.board.Square.{Square}
use Rattle.rules_model.specs.declared.moves.Move.{Move}
use Rattle.rules_model.specs.declared.moves.Move.TheVariants.{Go, Castle, Drop}
use Rattle.rules_model.specs.declared.moves.Promo.{Promo}
use Rattle.rules_model.specs.declared.rules.Rules.{Rules}
use Rattle.rules_model.specs.Squares.{cell_at}
use Rattle.rules_model.specs.Sides.{same_side}
use Rattle.rules_model.specs.Kinds.{is_pawn}
use Rattle.rules_model.specs.Pieces.{piece_moves}
use Rattle.rules_model.specs.Pawns.{pawn_moves}
use Rattle.rules_model.specs.Castling.{castles}
use Rattle.rules_model.specs.Drops.{drops_to}
use Rattle.rules_model.specs.Gating.{gates_from, castle_gates}

-- an own piece that is not the pawn makes its ordinary move
abbrev pub own_piece_moves : Rules → Repeat → Square → Square → Promo → Option Cell → Bool
own_piece_moves rules r from to promo None = false
own_piece_moves rules r from to promo (Some c) =
    same_side c.side r.side && not (is_pawn rules c.kind) && piece_moves rules r c from to promo

-- an own pawn makes its move
abbrev pub own_pawn_moves : Rules → Repeat → Square → Square → Promo → Option Cell → Bool
own_pawn_moves rules r from to promo None = false
own_pawn_moves rules r from to promo (Some c) =
    same_side c.side r.side && is_pawn rules c.kind && pawn_moves rules r from to promo

-- an ordinary move without gating
unfoldable pub is_piece_move : Rules → Repeat → Move → Bool
is_piece_move rules r (Go from to promo None) = own_piece_moves rules r from to promo (cell_at r.cells from.0)
is_piece_move rules r (Go from to promo (Some kind)) = false
is_piece_move rules r (Castle from to rook gate) = false
is_piece_move rules r (Drop kind to) = false

-- a pawn's move, an ordinary move with gating, a castle with or without it, or a drop
unfoldable pub is_special_move : Rules → Repeat → Move → Bool
is_special_move rules r (Go from to promo None) = own_pawn_moves rules r from to promo (cell_at r.cells from.0)
is_special_move rules r (Go from to promo (Some kind)) =
    own_piece_moves rules r from to promo (cell_at r.cells from.0) && gates_from rules r from kind
is_special_move rules r (Castle from to rook gate) =
    castles rules r from to rook && castle_gates rules r from to rook gate
is_special_move rules r (Drop kind to) = drops_to rules r kind to.0

-- a candidate
unfoldable pub is_candidate : Rules → Repeat → Move → Bool
is_candidate rules r m = is_piece_move rules r m || is_special_move rules r m
