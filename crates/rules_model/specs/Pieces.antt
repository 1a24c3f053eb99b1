-- The ordinary move of a piece that is not the pawn (Betza's terms; Fairy-Stockfish's `promotedPieceType`).
use Rattle.std.specs.Prelude.{ℕ, Bool, false, ◌&&◌, ◌||◌, not, ◌==◌, is_some, Option, Some, None, List}
use Rattle.rules_model.specs.declared.board.Cell.{Cell}
use Rattle.rules_model.specs.declared.board.Kind.{Kind}
use Rattle.rules_model.specs.declared.board.Repeat.{Repeat}
use Rattle.rules_model.specs.declared.board.Side.{Side}
use Rattle.rules_model.specs.declared.board.Square.{Square}
use Rattle.rules_model.specs.declared.board.Wing.{Wing}
use Rattle.rules_model.specs.declared.board.Wing.TheVariants.{Kingside, Queenside}
use Rattle.rules_model.specs.declared.moves.Promo.{Promo}
use Rattle.rules_model.specs.declared.moves.Promo.TheVariants.{Stays, Pawn, Plus}
use Rattle.rules_model.specs.declared.rules.Rules.{Rules}
use Rattle.rules_model.specs.declared.rules.Term.{Term}
use Rattle.rules_model.specs.Squares.{cell_at}
use Rattle.rules_model.specs.Sides.{same_side}
use Rattle.rules_model.specs.Kinds.{is_king, promoted_of}
use Rattle.rules_model.specs.Regions.{in_region, castling_square}
use Rattle.rules_model.specs.Movement.{kind_reaches}
use Rattle.rules_model.specs.Castling.{holds_right, king_file}

-- a term serves for a move onto what stands there: a quiet one onto an empty square, one that takes onto an enemy
abbrev pub serves : Side → Option Cell → Term → Bool
serves side None t = t.quiet
serves side (Some c) t = t.takes && not (same_side c.side side)

-- a piece of the kind goes to a square that it reaches
unfoldable pub piece_goes : Rules → List (Option Cell) → Side → Kind → Square → ℕ → Bool
piece_goes rules cells side kind from to = kind_reaches rules cells side kind (serves side (cell_at cells to)) from to

-- the kind has a promoted kind, and the start or the target lies in the promotion region
abbrev pub may_plus : Rules → Side → Kind → ℕ → ℕ → Bool
may_plus rules side kind from to =
    is_some (promoted_of rules kind) && (in_region rules.promotion side from || in_region rules.promotion side to)

-- what a piece may become, where it may promote or not
abbrev pub piece_promo : Rules → Bool → Promo → Bool
piece_promo rules may Stays = not (may && rules.must_promote_piece)
piece_promo rules may (Pawn kind) = false
piece_promo rules may Plus = may

-- the squares are the castling square and the castling target of a wing whose right the side holds
abbrev pub to_castling_target : Rules → Repeat → Wing → ℕ → ℕ → Bool
to_castling_target rules r wing from to =
    holds_right r.rights r.side wing && (from == castling_square rules r.side rules.castle_king)
    && (to == castling_square rules r.side (king_file rules wing))

-- the king's move from its castling square to such a target means castling, and is no ordinary move
abbrev pub means_castling : Rules → Repeat → Kind → ℕ → ℕ → Bool
means_castling rules r kind from to =
    is_king rules kind && (to_castling_target rules r Kingside from to || to_castling_target rules r Queenside from to)

-- the ordinary move of the piece, which is not the pawn
unfoldable pub piece_moves : Rules → Repeat → Cell → Square → Square → Promo → Bool
piece_moves rules r c from to promo =
    piece_goes rules r.cells r.side c.kind from to.0
    && piece_promo rules (may_plus rules r.side c.kind from.0 to.0) promo
    && not (means_castling rules r c.kind from.0 to.0)
