-- What the text of a move names (the long algebraic texts of the UCI protocol, with Fairy-Stockfish's drops and gates).
-- A text can be that of several moves, such as a castle and a king's move: it names the one that such texts mean in the
-- position, legal or not.
use Rattle.std.specs.Prelude.{◌≡◌, ℕ, Bool, true, false, ◌&&◌, ◌||◌, ◌==◌, is_none, is_some, if◌then◌else◌, Option, Some, None, List}
use Rattle.rules_model.specs.declared.board.Kind.{Kind}
use Rattle.rules_model.specs.declared.board.Position.{Position}
use Rattle.rules_model.specs.declared.board.Repeat.{Repeat}
use Rattle.rules_model.specs.declared.board.Square.{Square}
use Rattle.rules_model.specs.declared.board.Wing.{Wing}
use Rattle.rules_model.specs.declared.board.Wing.TheVariants.{Kingside, Queenside}
use Rattle.rules_model.specs.declared.moves.Move.{Move}
use Rattle.rules_model.specs.declared.moves.Move.TheVariants.{Go, Castle, Drop}
use Rattle.rules_model.specs.declared.moves.Placed.{Placed}
use Rattle.rules_model.specs.declared.moves.Promo.{Promo}
use Rattle.rules_model.specs.declared.moves.Promo.TheVariants.{Stays, Pawn, Plus}
use Rattle.rules_model.specs.declared.rules.Rules.{Rules}
use Rattle.rules_model.specs.Squares.{cell_at}
use Rattle.rules_model.specs.Repeats.{repeat_of}
use Rattle.rules_model.specs.Kinds.{is_pawn, promoted_of}
use Rattle.rules_model.specs.Attacks.{is_own, is_own_king}
use Rattle.rules_model.specs.declared.castling.CastleSquares.{CastleSquares}
use Rattle.rules_model.specs.Castling.{castle_of, holds_right, is_castle}
use Rattle.rules_model.specs.Moves.{IsFitMove}
use Rattle.rules_model.specs.MoveText.{text_of}

-- ---- castles

-- a gated piece comes in on the king's or on the rook's start
abbrev pub gates_on_start : Square → Square → Option Placed → Bool
gates_on_start from rook None = true
gates_on_start from rook (Some placed) = (placed.at.0 == from.0) || (placed.at.0 == rook.0)

-- the own king stands on the start of the castle, and the squares are those of the castle
abbrev pub is_castle_as : Rules → Repeat → Square → Square → Square → Option CastleSquares → Bool
is_castle_as rules r from to rook None = false
is_castle_as rules r from to rook (Some castle) =
    is_own_king rules r.side (cell_at r.cells castle.king.0) && is_castle castle from to rook

-- the squares are those of the castle to the wing, whose right the side to move holds
abbrev pub is_castle_to : Rules → Repeat → Square → Square → Square → Wing → Bool
is_castle_to rules r from to rook wing =
    holds_right r.rights r.side wing && is_castle_as rules r from to rook (castle_of rules r.cells r.side wing)

-- a castle that texts mean: neither its way nor attacks are looked at
unfoldable pub is_meant_castle : Rules → Repeat → Square → Square → Square → Option Placed → Bool
is_meant_castle rules r from to rook gate =
    (is_castle_to rules r from to rook Kingside || is_castle_to rules r from to rook Queenside)
    && gates_on_start from rook gate

-- a castle that texts mean has this text
pub record IsCastleText (rules : Rules) (r : Repeat) (text : List ℕ) (from to rook : Square)
    (gate : Option Placed) : Type 0 where
  pub fit : IsFitMove (Castle from to rook gate)
  pub meant : is_meant_castle rules r from to rook gate ≡ true
  pub written : text_of (Castle from to rook gate) ≡ text

-- no castle that texts mean has this text
abbrev pub NoCastleText : Rules → Repeat → List ℕ → Type 0
NoCastleText rules r text =
    (from to rook : Square) (gate : Option Placed) → IsCastleText rules r text from to rook gate → ⊥

-- ---- moves of a piece

-- a pawn stays one, or is promoted to a kind; a gated kind can only follow the letter of such a kind
abbrev pub pawn_ends : Promo → Option Kind → Bool
pawn_ends Stays gate = is_none gate
pawn_ends (Pawn kind) gate = true
pawn_ends Plus gate = false

-- another piece stays what it is, or becomes its promoted kind where there is one
abbrev pub piece_ends : Rules → Kind → Promo → Bool
piece_ends rules kind Stays = true
piece_ends rules kind (Pawn promoted) = false
piece_ends rules kind Plus = is_some (promoted_of rules kind)

-- what a piece of the kind becomes and what is gated, in texts of its moves
abbrev pub may_end : Rules → Promo → Option Kind → Kind → Bool
may_end rules promo gate kind = if is_pawn rules kind then pawn_ends promo gate else piece_ends rules kind promo

-- an own piece stands on the start, and its moves may end so
unfoldable pub is_meant_go : Rules → Repeat → Square → Promo → Option Kind → Bool
is_meant_go rules r from promo gate = is_own r.side (may_end rules promo gate) (cell_at r.cells from.0)

-- ---- the whole

-- texts mean the move: each drop, a castle whose right is held, and the other moves of own pieces, where no castle has
-- the same text
abbrev pub IsMeant : Rules → Repeat → Move → Type 0
IsMeant rules r (Go from to promo gate) =
    (is_meant_go rules r from promo gate ≡ true) × NoCastleText rules r (text_of (Go from to promo gate))
IsMeant rules r (Castle from to rook gate) = is_meant_castle rules r from to rook gate ≡ true
IsMeant rules r (Drop kind to) = Unit {0}

-- the text names the move in the position: it is the move's text, the squares are of the largest board and the kinds
-- are letters, and texts mean the move
pub record Names (rules : Rules) (p : Position) (text : List ℕ) (m : Move) : Type 0 where
  pub written : text_of m ≡ text
  pub fit : IsFitMove m
  pub meant : IsMeant rules (repeat_of p) m

-- the text names no move in the position
abbrev pub NamesNothing : Rules → Position → List ℕ → Type 0
NamesNothing rules p text = (m : Move) → Names rules p text m → ⊥
