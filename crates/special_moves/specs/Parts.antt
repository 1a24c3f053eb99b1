-- The parts of the moves that are given in turn.
use Rattle.std.specs.Prelude.{◌≡◌, ℕ, ◌<◌, nat_lt, Bool, true, ◌&&◌, not, ◌⊎◌, is_none, Option, Some, None}
use Rattle.rules_model.specs.declared.board.Kind.{Kind}
use Rattle.rules_model.specs.declared.board.Repeat.{Repeat}
use Rattle.rules_model.specs.declared.board.Square.{Square}
use Rattle.rules_model.specs.declared.board.Wing.{Wing}
use Rattle.rules_model.specs.declared.board.Wing.TheVariants.{Kingside, Queenside}
use Rattle.rules_model.specs.declared.castling.CastleSquares.{CastleSquares}
use Rattle.rules_model.specs.declared.moves.Move.{Move}
use Rattle.rules_model.specs.declared.moves.Move.TheVariants.{Castle, Drop}
use Rattle.rules_model.specs.declared.moves.Placed.{Placed}
use Rattle.rules_model.specs.declared.moves.Promo.{Promo}
use Rattle.rules_model.specs.declared.rules.Rules.{Rules}
use Rattle.rules_model.specs.Candidates.{is_special_move, own_piece_moves}
use Rattle.rules_model.specs.Drops.{bars_pawn, drops_to, is_doubled}
use Rattle.rules_model.specs.Gating.{castle_gates, gates_from}
use Rattle.rules_model.specs.Gates.{has_gate}
use Rattle.rules_model.specs.Hands.{holds}
use Rattle.rules_model.specs.Kinds.{is_pawn, names}
use Rattle.rules_model.specs.Moves.{IsFitMove}
use Rattle.rules_model.specs.Regions.{first_rank, in_region}
use Rattle.rules_model.specs.Squares.{cell_at, square_on}
use Rattle.square_set.specs.declared.Set.{Set}
use Rattle.square_set.specs.Members.{has}
use Rattle.piece_moves.specs.Taking.{IsChosen}
use Rattle.piece_moves.specs.Parts.{IsMoveFrom}
use Rattle.special_moves.specs.Castles.{open_castle}

-- a fit move that is no ordinary move of a piece without a gate
abbrev pub FitSpecialMoves : Rules → Repeat → Move → Type 0
FitSpecialMoves rules r m = IsFitMove m × (is_special_move rules r m ≡ true)

-- ---- parts of parts

-- a move of one of the parts whose number is below n
pub record IsBelow (Part : ℕ → Move → Type 0) (n : ℕ) (m : Move) : Type 0 where
  pub number : ℕ
  pub below : number < n
  pub is : Part number m

-- a move of the one part or of the other
abbrev pub IsEither : (Move → Type 0) → (Move → Type 0) → Move → Type 0
IsEither P Q m = P m ⊎ Q m

abbrev pub kind_at : ℕ → Kind
kind_at k = record { 0 = k }

abbrev pub square_at : ℕ → Square
square_at s = record { 0 = s }

-- ---- gates

-- hand pieces come in on the file's square of the side's first rank
abbrev pub is_gate : Rules → Repeat → ℕ → Bool
is_gate rules r file = rules.gate_hand && has_gate r.gates r.side file

-- the side to move holds a piece of the kind, by its letter
abbrev pub holds_kind : Repeat → ℕ → Bool
holds_kind r k = holds r.hands r.side (kind_at k)

-- the set has the numbers of these kinds
abbrev pub AreHeld : Repeat → Set → Type 0
AreHeld r held = (k : ℕ) → has held k ≡ (nat_lt k 26 && holds_kind r k)

-- an ordinary move that may place a hand piece of the kind on the square that it leaves
abbrev pub moves_and_gates : Rules → Repeat → Square → Square → Promo → Kind → Bool
moves_and_gates rules r from to promo kind =
    own_piece_moves rules r from to promo (cell_at r.cells from.0) && gates_from rules r from kind

-- the ordinary moves from the square that place a hand piece of the kind there
abbrev pub IsGateWith : Rules → Repeat → Square → ℕ → Move → Type 0
IsGateWith rules r from k m =
    (gates_from rules r from (kind_at k) ≡ true) × IsMoveFrom rules r from (Some (kind_at k)) m

-- those that place a piece of any kind
abbrev pub IsGateAt : Rules → Repeat → Square → Move → Type 0
IsGateAt rules r from = IsBelow (IsGateWith rules r from) 26

-- those from the square of a file on the side's first rank
abbrev pub IsGateFrom : Rules → Repeat → ℕ → Move → Type 0
IsGateFrom rules r file = IsGateAt rules r (square_on file (first_rank rules r.side))

abbrev pub IsGate : Rules → Repeat → Move → Type 0
IsGate rules r = IsBelow (IsGateFrom rules r) 12

-- ---- drops

-- pieces of the kind are dropped: the variant has drops, and the side holds one
abbrev pub has_drops : Rules → Repeat → Kind → Bool
has_drops rules r kind = rules.drops && holds r.hands r.side kind

-- the square is empty, and one of the side's drop region
abbrev pub takes_drops : Rules → Repeat → ℕ → Bool
takes_drops rules r s = is_none (cell_at r.cells s) && in_region rules.drop_region r.side s

-- and one of the largest board
abbrev pub is_drop_square : Rules → Repeat → ℕ → Bool
is_drop_square rules r s = nat_lt s 120 && takes_drops rules r s

-- the set is that of these squares
abbrev pub AreDropSquares : Rules → Repeat → Set → Type 0
AreDropSquares rules r squares = (s : ℕ) → has squares s ≡ is_drop_square rules r s

-- a piece of the kind may stand on the square once it was dropped there: no pawn where pawns are barred, and none
-- beside another that may not be doubled
abbrev pub suits : Rules → Repeat → Kind → ℕ → Bool
suits rules r kind to =
    not (is_pawn rules kind && bars_pawn rules r.side to) && not (is_doubled rules r.cells r.side kind to)

-- the kind alone tells that such a piece suits each square: it is no pawn, and may be doubled
abbrev pub suits_anywhere : Rules → Kind → Bool
suits_anywhere rules kind = not (is_pawn rules kind) && not (names rules.no_doubled kind)

-- the set has those of the squares that suit it
abbrev pub AreSuited : Rules → Repeat → Kind → Set → Set → Type 0
AreSuited rules r kind squares those = (s : ℕ) → has those s ≡ (has squares s && suits rules r kind s)

-- the drop of a hand piece of the kind on the square
abbrev pub IsDropOn : Rules → Repeat → Kind → ℕ → Move → Type 0
IsDropOn rules r kind to = IsChosen (drops_to rules r kind to) (Drop kind (square_at to))

-- the drops of a kind, by its letter
abbrev pub IsDropOf : Rules → Repeat → ℕ → Move → Type 0
IsDropOf rules r k = IsBelow (IsDropOn rules r (kind_at k)) 120

abbrev pub IsDrop : Rules → Repeat → Move → Type 0
IsDrop rules r = IsBelow (IsDropOf rules r) 26

-- ---- castles

-- a castle may place a piece of the kind: hand pieces come in by gates, and the side holds one
abbrev pub has_placed : Rules → Repeat → Kind → Bool
has_placed rules r kind = rules.gate_hand && holds r.hands r.side kind

abbrev pub castle_move : CastleSquares → Option Placed → Move
castle_move castle gate = Castle castle.king castle.king_to castle.rook gate

abbrev pub placed_on : Square → ℕ → Option Placed
placed_on at k = Some (record { kind = kind_at k; at = at })

-- the castle that places a hand piece of the kind on the square
abbrev pub IsGateOn : Rules → Repeat → CastleSquares → Square → ℕ → Move → Type 0
IsGateOn rules r castle at k =
    IsChosen (castle_gates rules r castle.king castle.king_to castle.rook (placed_on at k))
    (castle_move castle (placed_on at k))

-- those that place one of the kind, on the king's start or the rook's
abbrev pub IsGateOf : Rules → Repeat → CastleSquares → ℕ → Move → Type 0
IsGateOf rules r castle k = IsEither (IsGateOn rules r castle castle.king k) (IsGateOn rules r castle castle.rook k)

abbrev pub IsGatedCastle : Rules → Repeat → CastleSquares → Move → Type 0
IsGatedCastle rules r castle = IsBelow (IsGateOf rules r castle) 26

-- the castle of these squares, with a gate or without one
abbrev pub IsCastleOf : Rules → Repeat → CastleSquares → Move → Type 0
IsCastleOf rules r castle = IsEither (IsChosen true (castle_move castle None)) (IsGatedCastle rules r castle)

abbrev pub IsCastleOfSome : Rules → Repeat → Option CastleSquares → Move → Type 0
IsCastleOfSome rules r None m = ⊥
IsCastleOfSome rules r (Some castle) m = IsCastleOf rules r castle m

abbrev pub IsCastleTo : Rules → Repeat → Wing → Move → Type 0
IsCastleTo rules r wing = IsCastleOfSome rules r (open_castle rules r wing)

abbrev pub IsCastle : Rules → Repeat → Move → Type 0
IsCastle rules r = IsEither (IsCastleTo rules r Kingside) (IsCastleTo rules r Queenside)
