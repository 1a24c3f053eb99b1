-- Castling (FIDE Laws of Chess, article 3.8), on the files and the rank that the variant names (`castlingKingFile` and
-- its kin).
use Rattle.std.specs.Prelude.{ℕ, ◌+◌, ◌-◌, ◌<◌, min, max, nat_lt, nat_le, Bool, false, ◌&&◌, ◌||◌, not, ◌==◌, is_some, if◌then◌else◌, Option, Some, None, List, [], slice_index_or}
use Rattle.std.specs.List.{list_any}
use Rattle.foundation.specs.Count.{any_below, first_below, last_below}
use Rattle.rules_model.specs.declared.board.Cell.{Cell}
use Rattle.rules_model.specs.declared.board.Repeat.{Repeat}
use Rattle.rules_model.specs.declared.board.Side.{Side}
use Rattle.rules_model.specs.declared.board.Square.{Square}
use Rattle.rules_model.specs.declared.board.Wing.{Wing}
use Rattle.rules_model.specs.declared.board.Wing.TheVariants.{Kingside, Queenside}
use Rattle.rules_model.specs.declared.castling.CastleSquares.{CastleSquares}
use Rattle.rules_model.specs.declared.rules.Rules.{Rules}
use Rattle.rules_model.specs.Squares.{cell_at}
use Rattle.rules_model.specs.Sides.{other, side_index, wing_index}
use Rattle.rules_model.specs.Kinds.{masks}
use Rattle.rules_model.specs.Regions.{castling_square}
use Rattle.rules_model.specs.Attacks.{attacks, is_own, is_own_king}

-- the side holds the castling right of the wing
abbrev pub holds_right : List (List Bool) → Side → Wing → Bool
holds_right rights side wing = slice_index_or (slice_index_or rights (side_index side) []) (wing_index wing) false

-- the variant has castling
unfoldable pub castling_on : Rules → Bool
castling_on rules =
    rules.castling && is_some rules.king && list_any (λ b. b) rules.castle_rooks && nat_le rules.castle_rank rules.ranks
    && nat_lt rules.castle_king rules.files && nat_lt rules.castle_near rules.files
    && nat_lt rules.castle_far rules.files
    && nat_lt rules.castle_far rules.castle_king && nat_lt rules.castle_king rules.castle_near

-- the file to which the king goes
abbrev pub king_file : Rules → Wing → ℕ
king_file rules Kingside = rules.castle_near
king_file rules Queenside = rules.castle_far

-- a piece of the side that may castle as a rook stands on that file of the castling rank
unfoldable pub rook_on : Rules → List (Option Cell) → Side → ℕ → Bool
rook_on rules cells side file = is_own side (masks rules.castle_rooks) (cell_at cells (castling_square rules side file))

abbrev pub rook_beyond : Rules → List (Option Cell) → Side → Wing → ℕ → Bool
rook_beyond rules cells side Kingside file = nat_lt rules.castle_king file && rook_on rules cells side file
rook_beyond rules cells side Queenside file = nat_lt file rules.castle_king && rook_on rules cells side file

abbrev pub outermost : Wing → (ℕ → Bool) → ℕ → Option ℕ
outermost Kingside test n = last_below test n
outermost Queenside test n = first_below test n

-- the file of the castling rook: the outermost on that side of the king's file
unfoldable pub rook_file : Rules → List (Option Cell) → Side → Wing → Option ℕ
rook_file rules cells side wing = outermost wing (rook_beyond rules cells side wing) rules.files

-- ---- a castle

-- the file to which the rook goes: the one beside the king's on the inner side
abbrev pub rook_to_file : Rules → Wing → ℕ
rook_to_file rules Kingside = rules.castle_near - 1
rook_to_file rules Queenside = rules.castle_far + 1

abbrev pub on_castling_rank : Rules → Side → ℕ → Square
on_castling_rank rules side file = record { 0 = castling_square rules side file }

-- the side's castle to the wing with the rook of that file
abbrev pub castle_with : Rules → Side → Wing → ℕ → CastleSquares
castle_with rules side wing file = record {
  king = on_castling_rank rules side rules.castle_king;
  king_to = on_castling_rank rules side (king_file rules wing);
  rook = on_castling_rank rules side file;
  rook_to = on_castling_rank rules side (rook_to_file rules wing);
}

abbrev pub castle_by : Rules → Side → Wing → Option ℕ → Option CastleSquares
castle_by rules side wing None = None
castle_by rules side wing (Some file) = Some (castle_with rules side wing file)

-- the side's castle to the wing with its castling rook, where it has one on that side of the king's file
abbrev pub castle_of : Rules → List (Option Cell) → Side → Wing → Option CastleSquares
castle_of rules cells side wing = castle_by rules side wing (rook_file rules cells side wing)

-- its squares are of the largest board
pub record IsFitCastle (castle : CastleSquares) : Type 0 where
  pub king : castle.king.0 < 120
  pub king_to : castle.king_to.0 < 120
  pub rook : castle.rook.0 < 120
  pub rook_to : castle.rook_to.0 < 120

-- the lowest and the highest of its four squares, which are on one rank
abbrev pub lowest : CastleSquares → ℕ
lowest castle = min (min castle.king.0 castle.king_to.0) (min castle.rook.0 castle.rook_to.0)

abbrev pub highest : CastleSquares → ℕ
highest castle = max (max castle.king.0 castle.king_to.0) (max castle.rook.0 castle.rook_to.0)

-- a piece other than king and rook stands on the square, from the lowest to the highest
unfoldable pub in_the_way : List (Option Cell) → CastleSquares → ℕ → Bool
in_the_way cells castle s =
    nat_le (lowest castle) s && nat_le s (highest castle) && not (s == castle.king.0) && not (s == castle.rook.0)
    && is_some (cell_at cells s)

-- the other side attacks the square, from the king's start to its target
unfoldable pub king_passes_attack : Rules → List (Option Cell) → Side → CastleSquares → ℕ → Bool
king_passes_attack rules cells side castle s =
    nat_le (min castle.king.0 castle.king_to.0) s && nat_le s (max castle.king.0 castle.king_to.0)
    && attacks rules cells (other side) s

-- the way is clear, and the king's is not attacked
unfoldable pub way_is_open : Rules → List (Option Cell) → Side → CastleSquares → Bool
way_is_open rules cells side castle =
    not (any_below (in_the_way cells castle) 120) && not (any_below (king_passes_attack rules cells side castle) 120)

-- ---- the move

-- the squares of the move are those of the castle
abbrev pub is_castle : CastleSquares → Square → Square → Square → Bool
is_castle castle from to rook = (from.0 == castle.king.0) && (to.0 == castle.king_to.0) && (rook.0 == castle.rook.0)

-- the move is that castle, whose king is in place and whose way is open
abbrev pub castles_as : Rules → Repeat → Square → Square → Square → Option CastleSquares → Bool
castles_as rules r from to rook None = false
castles_as rules r from to rook (Some castle) =
    is_own_king rules r.side (cell_at r.cells castle.king.0) && is_castle castle from to rook
    && way_is_open rules r.cells r.side castle

-- the king castles to the wing, whose right the side holds
abbrev pub castles_on : Rules → Repeat → Square → Square → Square → Wing → Bool
castles_on rules r from to rook wing =
    holds_right r.rights r.side wing && castles_as rules r from to rook (castle_of rules r.cells r.side wing)

unfoldable pub castles : Rules → Repeat → Square → Square → Square → Bool
castles rules r from to rook =
    castling_on rules && (castles_on rules r from to rook Kingside || castles_on rules r from to rook Queenside)

-- the square to which the rook of a castle goes, by the move alone: the one beside the king's target on the inner side.
-- The rook's start lies on the wing of the king's start that is castled to
abbrev pub rook_target : Square → Square → Square → ℕ
rook_target from to rook = if nat_lt from.0 rook.0 then to.0 - 1 else to.0 + 1
