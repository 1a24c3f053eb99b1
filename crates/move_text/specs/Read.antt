-- The move that a text names, step by step.
use Rattle.std.specs.Prelude.{ℕ, ◌-◌, nat_le, Bool, true, false, ◌&&◌, ◌==◌, is_some, List, [], ◌∷◌, Option, Some, None, if◌then◌else◌}
use Rattle.foundation.specs.Tests.{is_nil}
use Rattle.rules_model.specs.declared.board.Cell.{Cell}
use Rattle.rules_model.specs.declared.board.Kind.{Kind}
use Rattle.rules_model.specs.declared.board.Position.{Position}
use Rattle.rules_model.specs.declared.board.Repeat.{Repeat}
use Rattle.rules_model.specs.declared.board.Square.{Square}
use Rattle.rules_model.specs.declared.board.Wing.{Wing}
use Rattle.rules_model.specs.declared.board.Wing.TheVariants.{Kingside, Queenside}
use Rattle.rules_model.specs.declared.castling.CastleSquares.{CastleSquares}
use Rattle.rules_model.specs.declared.moves.Move.{Move}
use Rattle.rules_model.specs.declared.moves.Move.TheVariants.{Go, Castle, Drop}
use Rattle.rules_model.specs.declared.moves.Placed.{Placed}
use Rattle.rules_model.specs.declared.moves.Promo.{Promo}
use Rattle.rules_model.specs.declared.moves.Promo.TheVariants.{Stays, Pawn, Plus}
use Rattle.rules_model.specs.declared.rules.Rules.{Rules}
use Rattle.rules_model.specs.Squares.{cell_at}
use Rattle.rules_model.specs.Repeats.{repeat_of}
use Rattle.rules_model.specs.Sides.{same_side}
use Rattle.rules_model.specs.Kinds.{is_pawn, promoted_of}
use Rattle.rules_model.specs.Attacks.{is_own_king}
use Rattle.rules_model.specs.Castling.{castle_of, holds_right}
use Rattle.move_text.specs.declared.endings.Ending.{Ending}
use Rattle.move_text.specs.Squares.{Front, TwoSquares, square_front, squares_front}

-- ---- endings

abbrev pub is_lower : ℕ → Bool
is_lower b = nat_le 97 b && nat_le b 122

abbrev pub is_upper : ℕ → Bool
is_upper b = nat_le 65 b && nat_le b 90

-- the kind of a lower-case letter
abbrev pub named_kind : ℕ → Option Kind
named_kind b = if is_lower b then Some (record { 0 = b - 97 }) else None

-- what a piece becomes, and the kind that is gated
abbrev pub ending : Promo → Option Kind → Ending
ending promo gate = record { promo = promo; gate = gate }

-- with a gated kind, where the letter names one
abbrev pub gated : Promo → Option Kind → Option Ending
gated promo None = None
gated promo (Some gate) = Some (ending promo (Some gate))

abbrev pub promoted : Option Kind → Option Ending
promoted None = None
promoted (Some kind) = Some (ending (Pawn kind) None)

abbrev pub promoted_gated : Option Kind → Option Kind → Option Ending
promoted_gated None gate = None
promoted_gated (Some kind) gate = gated (Pawn kind) gate

abbrev pub pawn_ending : List ℕ → Option Ending
pawn_ending [] = Some (ending Stays None)
pawn_ending (b ∷ []) = promoted (named_kind b)
pawn_ending (b ∷ c ∷ []) = promoted_gated (named_kind b) (named_kind c)
pawn_ending (b ∷ c ∷ d ∷ rest) = None

-- what follows a `+` or nothing
abbrev pub gate_ending : Promo → List ℕ → Option Ending
gate_ending promo [] = Some (ending promo None)
gate_ending promo (b ∷ []) = gated promo (named_kind b)
gate_ending promo (b ∷ c ∷ rest) = None

abbrev pub piece_ending : Rules → Kind → List ℕ → Option Ending
piece_ending rules kind [] = gate_ending Stays []
piece_ending rules kind (b ∷ rest) =
    if b == 43 then (if is_some (promoted_of rules kind) then gate_ending Plus rest else None)
    else gate_ending Stays (b ∷ rest)

abbrev pub kind_ending : Rules → Kind → List ℕ → Option Ending
kind_ending rules kind text = if is_pawn rules kind then pawn_ending text else piece_ending rules kind text

-- ---- moves of a piece

abbrev pub go_by : Square → Square → Option Ending → Option Move
go_by from to None = None
go_by from to (Some e) = Some (Go from to e.promo e.gate)

abbrev pub go_of : Rules → Repeat → TwoSquares → Option Cell → Option Move
go_of rules r squares None = None
go_of rules r squares (Some c) =
    if same_side c.side r.side then go_by squares.from squares.to (kind_ending rules c.kind squares.ending) else None

-- ---- castles

abbrev pub placed_on : Square → Option Kind → Option Placed
placed_on s None = None
placed_on s (Some kind) = Some (record { kind = kind; at = s })

abbrev pub castle_move : CastleSquares → Option Placed → Move
castle_move castle gate = Castle castle.king castle.king_to castle.rook gate

-- without a gate, or with one on the king's start
abbrev pub king_castle : CastleSquares → Option Ending → Option Move
king_castle castle None = None
king_castle castle (Some e) = Some (castle_move castle (placed_on castle.king e.gate))

-- with a gate on the rook's start
abbrev pub gated_rook : CastleSquares → Option Kind → Option Move
gated_rook castle None = None
gated_rook castle (Some kind) = Some (castle_move castle (placed_on castle.rook (Some kind)))

abbrev pub rook_castle : CastleSquares → List ℕ → Option Move
rook_castle castle [] = None
rook_castle castle (b ∷ []) = gated_rook castle (named_kind b)
rook_castle castle (b ∷ c ∷ rest) = None

abbrev pub castle_by_squares : CastleSquares → TwoSquares → Option Move
castle_by_squares castle s =
    if s.from.0 == castle.king.0 && s.to.0 == castle.king_to.0 then king_castle castle (gate_ending Stays s.ending)
    else if s.from.0 == castle.rook.0 && s.to.0 == castle.king.0 then rook_castle castle s.ending
    else None

abbrev pub castle_where : Rules → Repeat → TwoSquares → Option CastleSquares → Option Move
castle_where rules r s None = None
castle_where rules r s (Some castle) =
    if is_own_king rules r.side (cell_at r.cells castle.king.0) then castle_by_squares castle s else None

-- the castle to the wing, where its right is held
unfoldable pub castle_to : Rules → Repeat → TwoSquares → Wing → Option Move
castle_to rules r s wing =
    if holds_right r.rights r.side wing then castle_where rules r s (castle_of rules r.cells r.side wing) else None

abbrev pub first_move : Option Move → Option Move → Option Move
first_move None other = other
first_move (Some m) other = Some m

unfoldable pub castle_said : Rules → Repeat → TwoSquares → Option Move
castle_said rules r s = first_move (castle_to rules r s Kingside) (castle_to rules r s Queenside)

-- ---- the whole

abbrev pub drop_on : ℕ → Option Front → Option Move
drop_on letter None = None
drop_on letter (Some front) =
    if is_nil front.rest then Some (Drop (record { 0 = letter - 65 }) (record { 0 = front.value })) else None

unfoldable pub drop_said : List ℕ → Option Move
drop_said [] = None
drop_said (b ∷ []) = None
drop_said (b ∷ c ∷ rest) = if is_upper b && c == 64 then drop_on b (square_front rest) else None

abbrev pub squares_said : Rules → Repeat → Option TwoSquares → Option Move
squares_said rules r None = None
squares_said rules r (Some s) = first_move (castle_said rules r s) (go_of rules r s (cell_at r.cells s.from.0))

-- a drop, a castle or another move
unfoldable pub move_said : Rules → Position → List ℕ → Option Move
move_said rules p text = first_move (drop_said text) (squares_said rules (repeat_of p) (squares_front text))
