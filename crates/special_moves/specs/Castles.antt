-- The castle that a side may make to a wing.
use Rattle.std.specs.Prelude.{Bool, ◌&&◌, if◌then◌else◌, Option, Some, None}
use Rattle.rules_model.specs.declared.board.Repeat.{Repeat}
use Rattle.rules_model.specs.declared.board.Wing.{Wing}
use Rattle.rules_model.specs.declared.castling.CastleSquares.{CastleSquares}
use Rattle.rules_model.specs.declared.rules.Rules.{Rules}
use Rattle.rules_model.specs.Attacks.{is_own_king}
use Rattle.rules_model.specs.Castling.{castling_on, holds_right, castle_of, way_is_open}
use Rattle.rules_model.specs.Squares.{cell_at}

-- the king is in place, and the way is open
abbrev pub is_open : Rules → Repeat → CastleSquares → Bool
is_open rules r castle =
    is_own_king rules r.side (cell_at r.cells castle.king.0) && way_is_open rules r.cells r.side castle

abbrev pub where_open : Rules → Repeat → Option CastleSquares → Option CastleSquares
where_open rules r None = None
where_open rules r (Some castle) = if is_open rules r castle then Some castle else None

-- the castle to the wing, where the variant has castling, the side holds the right, and king, rook and way are as
-- they must be
unfoldable pub open_castle : Rules → Repeat → Wing → Option CastleSquares
open_castle rules r wing =
    if castling_on rules && holds_right r.rights r.side wing
    then where_open rules r (castle_of rules r.cells r.side wing) else None
