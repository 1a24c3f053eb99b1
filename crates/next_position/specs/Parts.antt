-- The parts of the position after a move, each by what it takes from the position before it: what a part of the code
-- can see while the position changes in place.
use Rattle.std.specs.Prelude.{ℕ, ◌+◌, ◌-◌, List, [], ◌∷◌, Bool, false, ◌&&◌, ◌||◌, not, nat_le, nat_lt}
use Rattle.std.specs.Prelude.{if◌then◌else◌, Option, Some, None, slice_index, slice_set}
use Rattle.rules_model.specs.declared.board.Cell.{Cell}
use Rattle.rules_model.specs.declared.board.Repeat.{Repeat}
use Rattle.rules_model.specs.declared.board.Side.{Side}
use Rattle.rules_model.specs.declared.board.Side.TheVariants.{White, Black}
use Rattle.rules_model.specs.declared.board.Square.{Square}
use Rattle.rules_model.specs.declared.board.Wing.{Wing}
use Rattle.rules_model.specs.declared.board.Wing.TheVariants.{Kingside, Queenside}
use Rattle.rules_model.specs.declared.moves.Move.{Move}
use Rattle.rules_model.specs.declared.moves.Move.TheVariants.{Go, Castle, Drop}
use Rattle.rules_model.specs.declared.rules.Rules.{Rules}
use Rattle.next_position.specs.declared.rights.RightsLeft.{RightsLeft}
use Rattle.next_position.specs.declared.rights.RightsLeft.TheVariants.{All, OfRooks}
use Rattle.next_position.specs.declared.rights.Rooks.{Rooks}
use Rattle.rules_model.specs.Squares.{cell_at}
use Rattle.rules_model.specs.Reach.{is_at}
use Rattle.rules_model.specs.Sides.{side_index}
use Rattle.rules_model.specs.Kinds.{board_of}
use Rattle.rules_model.specs.Regions.{castling_square}
use Rattle.rules_model.specs.Attacks.{ahead}
use Rattle.rules_model.specs.Hands.{put_down, put_at_gate}
use Rattle.rules_model.specs.Castling.{holds_right, rook_file}
use Rattle.rules_model.specs.Pawns.{behind, passes_by}
use Rattle.rules_model.specs.Next.{castled, cell_on, emptied, enters, fresh, gated, is_double_step, leaves, placed_kind, placed_on, promote, side_gates_after, square_at, take_into, taken}

-- ---- pieces

-- the move takes a pawn in passing
abbrev pub is_passing : Rules → Repeat → Move → Bool
is_passing rules r (Go from to promo gate) = passes_by rules r from to.0
is_passing rules r (Castle from to rook gate) = false
is_passing rules r (Drop kind to) = false

-- the piece that a piece takes that goes there, by whether it takes in passing
abbrev pub taken_at : Rules → Repeat → Bool → Square → Option Cell
taken_at rules r passing to = if passing then cell_on r.cells (behind rules r.side to) else cell_at r.cells to.0

-- the piece that the move takes
abbrev pub taken_by : Rules → Repeat → Move → Option Cell
taken_by rules r (Go from to promo gate) = taken rules r from to
taken_by rules r (Castle from to rook gate) = None
taken_by rules r (Drop kind to) = None

abbrev pub without_pawn : Rules → Side → Bool → Square → List (Option Cell) → List (Option Cell)
without_pawn rules side passing to cells = if passing then emptied cells (behind rules side to) else cells

-- the cells after the move, by whether it takes in passing
abbrev pub cells_by : Rules → Side → Bool → Move → List (Option Cell) → List (Option Cell)
cells_by rules side passing (Go from to promo gate) cells =
    slice_set (slice_set (without_pawn rules side passing to cells) from.0 (gated side gate)) to.0
    (promote rules (cell_at cells from.0) promo)
cells_by rules side passing (Castle from to rook gate) cells = placed_on side gate (castled cells from to rook)
cells_by rules side passing (Drop kind to) cells = slice_set cells to.0 (Some (fresh side kind))

-- ---- hands

-- the hands after the move, by what it takes
abbrev pub hands_by : Rules → Side → Option Cell → Move → List (List ℕ) → List (List ℕ)
hands_by rules side piece (Go from to promo gate) hands =
    put_at_gate (take_into rules.to_hand hands side piece) side gate
hands_by rules side piece (Castle from to rook gate) hands = put_at_gate hands side (placed_kind gate)
hands_by rules side piece (Drop kind to) hands = put_down hands side kind

-- ---- rights

abbrev pub standing : Rules → Side → Move → Option ℕ → Option ℕ
standing rules side m None = None
standing rules side m (Some file) =
    if not (leaves m (castling_square rules side file))
    && not (enters m (castling_square rules side file)) then Some file else None

-- the file of the rook with which the side may still castle: neither it nor the king moves
abbrev pub rook_left : Rules → Repeat → Move → Side → Wing → Option ℕ
rook_left rules r m side wing =
    if holds_right r.rights side wing
    && not (leaves m (castling_square rules side rules.castle_king))
    then standing rules side m (rook_file rules r.cells side wing) else None

abbrev pub rooks_left : Rules → Repeat → Move → Side → Rooks
rooks_left rules r m side =
    record { kingside = rook_left rules r m side Kingside; queenside = rook_left rules r m side Queenside }

-- it is still the outermost one
abbrev pub is_outermost : Option ℕ → Option ℕ → Bool
is_outermost None later = false
is_outermost (Some file) later = is_at file later

-- a side's rights after the move, by the rooks that were left
abbrev pub rights_by : Rules → List (Option Cell) → Side → Rooks → List Bool
rights_by rules later side rooks =
    is_outermost rooks.kingside (rook_file rules later side Kingside)
    ∷ is_outermost rooks.queenside (rook_file rules later side Queenside) ∷ []

-- the square is of the rank that begins with the square 'first'
abbrev pub is_on_rank : ℕ → ℕ → Bool
is_on_rank first s = nat_le first s && nat_lt s (first + 12)

-- the square is of the side's castling rank
abbrev pub is_on_castling_rank : Rules → Side → ℕ → Bool
is_on_castling_rank rules side s = is_on_rank (castling_square rules side 0) s

-- the move leaves alone all squares of the side's castling rank, as is plain at once
abbrev pub is_apart : Rules → Side → Bool → Move → Bool
is_apart rules side passing (Go from to promo gate) =
    not passing && not (is_on_castling_rank rules side from.0) && not (is_on_castling_rank rules side to.0)
is_apart rules side passing (Castle from to rook gate) = false
is_apart rules side passing (Drop kind to) = not (is_on_castling_rank rules side to.0)

-- the side holds a castling right
abbrev pub holds_any_right : List (List Bool) → Side → Bool
holds_any_right rights side = holds_right rights side Kingside || holds_right rights side Queenside

-- what rights the move leaves to the side: all that it has, where it has none or the move is apart from its castling
-- rank
abbrev pub rights_left : Rules → Repeat → Bool → Move → Side → RightsLeft
rights_left rules r passing m side =
    if not (holds_any_right r.rights side)
    || is_apart rules side passing m then All else OfRooks (rooks_left rules r m side)

-- the rights that the side holds
abbrev pub held : List (List Bool) → Side → List Bool
held rights side = holds_right rights side Kingside ∷ holds_right rights side Queenside ∷ []

-- a side's rights after the move, by those before it and by what it left
abbrev pub rights_kept : Rules → List (Option Cell) → List (List Bool) → Side → RightsLeft → List Bool
rights_kept rules later rights side All = held rights side
rights_kept rules later rights side (OfRooks rooks) = rights_by rules later side rooks

-- ---- gates

abbrev pub gates_by : Rules → Move → List ℕ → List ℕ
gates_by rules m gates =
    side_gates_after rules White m (slice_index gates (side_index White))
    ∷ side_gates_after rules Black m (slice_index gates (side_index Black)) ∷ []

-- ---- the en passant square and the checks left

-- the square that a double step passes over
abbrev pub passed_over : Rules → Repeat → Move → Option Square
passed_over rules r (Go from to promo gate) =
    if is_double_step rules r from to promo then square_at (ahead (board_of rules) r.side from 1) else None
passed_over rules r (Castle from to rook gate) = None
passed_over rules r (Drop kind to) = None

-- the checks that both sides have still to give, once the side has given one that counts, or none
abbrev pub checks_left : Bool → Side → List ℕ → List ℕ
checks_left gives side checks =
    if gives then slice_set checks (side_index side) (slice_index checks (side_index side) - 1) else checks
