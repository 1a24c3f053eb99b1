-- The position after a move.
use Rattle.std.specs.Prelude.{ℕ, ◌+◌, ◌-◌, List, [], ◌∷◌, Bool, false, ◌&&◌, ◌||◌, not, ◌==◌, nat_lt, is_some, if◌then◌else◌, Option, Some, None, slice_index, slice_set}
use Rattle.std.specs.Option.{unwrap_or}
use Rattle.rules_model.specs.declared.board.Cell.{Cell}
use Rattle.rules_model.specs.declared.board.Kind.{Kind}
use Rattle.rules_model.specs.declared.board.Position.{Position}
use Rattle.rules_model.specs.declared.board.Repeat.{Repeat}
use Rattle.rules_model.specs.declared.board.Side.{Side}
use Rattle.rules_model.specs.declared.board.Side.TheVariants.{White, Black}
use Rattle.rules_model.specs.declared.board.Square.{Square}
use Rattle.rules_model.specs.declared.board.Wing.{Wing}
use Rattle.rules_model.specs.declared.board.Wing.TheVariants.{Kingside, Queenside}
use Rattle.rules_model.specs.declared.moves.Move.{Move}
use Rattle.rules_model.specs.declared.moves.Move.TheVariants.{Go, Castle, Drop}
use Rattle.rules_model.specs.declared.moves.Placed.{Placed}
use Rattle.rules_model.specs.declared.moves.Promo.{Promo}
use Rattle.rules_model.specs.declared.moves.Promo.TheVariants.{Stays, Pawn, Plus}
use Rattle.rules_model.specs.declared.rules.Rules.{Rules}
use Rattle.rules_model.specs.Squares.{cell_at}
use Rattle.rules_model.specs.Reach.{is_at}
use Rattle.rules_model.specs.Repeats.{repeat_of}
use Rattle.rules_model.specs.Sides.{other, side_index}
use Rattle.rules_model.specs.Kinds.{board_of, promoted_of, masks}
use Rattle.rules_model.specs.Regions.{castling_square}
use Rattle.rules_model.specs.Attacks.{ahead, is_own_pawn, king_attacked, pawn_could_take}
use Rattle.rules_model.specs.Hands.{taken_in, put_down, put_at_gate}
use Rattle.rules_model.specs.Gates.{closed_at}
use Rattle.rules_model.specs.Castling.{holds_right, rook_file, rook_target}
use Rattle.rules_model.specs.Pawns.{passes_by, behind, is_stays}

-- ---- what stands on the squares

-- a piece that comes from the hand has no origin
abbrev pub fresh : Side → Kind → Cell
fresh side kind = record { side = side; kind = kind; origin = None }

abbrev pub plus : Cell → Option Kind → Cell
plus c None = c
plus c (Some kind) = record { side = c.side; kind = kind; origin = Some c.kind }

-- what a piece becomes: by `Plus` its former kind is the origin, a promoted pawn has the origin pawn where takings go
-- to hands
abbrev pub after_promo : Rules → Cell → Promo → Cell
after_promo rules c Stays = c
after_promo rules c (Pawn kind) =
    record { side = c.side; kind = kind; origin = if rules.to_hand then Some c.kind else None }
after_promo rules c Plus = plus c (promoted_of rules c.kind)

abbrev pub promote : Rules → Option Cell → Promo → Option Cell
promote rules None promo = None
promote rules (Some c) promo = Some (after_promo rules c promo)

-- what a gate leaves on the start
abbrev pub gated : Side → Option Kind → Option Cell
gated side None = None
gated side (Some kind) = Some (fresh side kind)

abbrev pub emptied : List (Option Cell) → Option ℕ → List (Option Cell)
emptied cells None = cells
emptied cells (Some s) = slice_set cells s None

-- the cells without the pawn that is taken in passing
abbrev pub without_passed : Rules → Repeat → Square → Square → List (Option Cell)
without_passed rules r from to =
    if passes_by rules r from to.0 then emptied r.cells (behind rules r.side to) else r.cells

abbrev pub placed_on : Side → Option Placed → List (Option Cell) → List (Option Cell)
placed_on side None cells = cells
placed_on side (Some placed) cells = slice_set cells placed.at.0 (Some (fresh side placed.kind))

-- the cells after a castle, before a gate
abbrev pub castled : List (Option Cell) → Square → Square → Square → List (Option Cell)
castled cells from to rook =
    slice_set (slice_set (slice_set (slice_set cells from.0 None) rook.0 None) to.0 (cell_at cells from.0))
    (rook_target from to rook) (cell_at cells rook.0)

unfoldable pub cells_after : Rules → Repeat → Move → List (Option Cell)
cells_after rules r (Go from to promo gate) =
    slice_set (slice_set (without_passed rules r from to) from.0 (gated r.side gate)) to.0
    (promote rules (cell_at r.cells from.0) promo)
cells_after rules r (Castle from to rook gate) = placed_on r.side gate (castled r.cells from to rook)
cells_after rules r (Drop kind to) = slice_set r.cells to.0 (Some (fresh r.side kind))

-- ---- what is taken, and the hands

abbrev pub cell_on : List (Option Cell) → Option ℕ → Option Cell
cell_on cells None = None
cell_on cells (Some s) = cell_at cells s

-- the piece that a piece takes that goes there
unfoldable pub taken : Rules → Repeat → Square → Square → Option Cell
taken rules r from to =
    if passes_by rules r from to.0 then cell_on r.cells (behind rules r.side to) else cell_at r.cells to.0

-- the move captures: en passant is a capture
abbrev pub captures : Rules → Repeat → Move → Bool
captures rules r (Go from to promo gate) = is_some (taken rules r from to)
captures rules r (Castle from to rook gate) = false
captures rules r (Drop kind to) = false

-- the kind that a taken piece has in a hand
abbrev pub hand_kind : Cell → Kind
hand_kind c = unwrap_or c.origin c.kind

abbrev pub take_into : Bool → List (List ℕ) → Side → Option Cell → List (List ℕ)
take_into to_hand hands side None = hands
take_into to_hand hands side (Some c) = if to_hand then taken_in hands side (hand_kind c) else hands

abbrev pub placed_kind : Option Placed → Option Kind
placed_kind None = None
placed_kind (Some placed) = Some placed.kind

unfoldable pub hands_after : Rules → Repeat → Move → List (List ℕ)
hands_after rules r (Go from to promo gate) =
    put_at_gate (take_into rules.to_hand r.hands r.side (taken rules r from to)) r.side gate
hands_after rules r (Castle from to rook gate) = put_at_gate r.hands r.side (placed_kind gate)
hands_after rules r (Drop kind to) = put_down r.hands r.side kind

-- ---- rights

-- the move leaves the square
abbrev pub leaves : Move → ℕ → Bool
leaves (Go from to promo gate) s = from.0 == s
leaves (Castle from to rook gate) s = (from.0 == s) || (rook.0 == s)
leaves (Drop kind to) s = false

abbrev pub enters : Move → ℕ → Bool
enters (Go from to promo gate) s = to.0 == s
enters (Castle from to rook gate) s = (to.0 == s) || (rook_target from to rook == s)
enters (Drop kind to) s = to.0 == s

-- the castling rook stands still, and is still the outermost one
abbrev pub rook_stays : Rules → Side → Move → Option ℕ → Option ℕ → Bool
rook_stays rules side m None later = false
rook_stays rules side m (Some file) later =
    not (leaves m (castling_square rules side file)) && not (enters m (castling_square rules side file))
    && is_at file later

-- a castling right is kept where the king did not leave its square and the rook stands still
unfoldable pub keeps_right : Rules → Repeat → Move → List (Option Cell) → Side → Wing → Bool
keeps_right rules r m later side wing =
    holds_right r.rights side wing && not (leaves m (castling_square rules side rules.castle_king))
    && rook_stays rules side m (rook_file rules r.cells side wing) (rook_file rules later side wing)

unfoldable pub rights_after : Rules → Repeat → Move → List (Option Cell) → List (List Bool)
rights_after rules r m later =
    (keeps_right rules r m later White Kingside ∷ keeps_right rules r m later White Queenside ∷ [])
    ∷ (keeps_right rules r m later Black Kingside ∷ keeps_right rules r m later Black Queenside ∷ [])
    ∷ []

-- a gate right is kept where its square was neither left nor entered
abbrev pub side_gates_after : Rules → Side → Move → ℕ → ℕ
side_gates_after rules side (Go from to promo gate) gates =
    closed_at rules side to.0 (closed_at rules side from.0 gates)
side_gates_after rules side (Castle from to rook gate) gates =
    closed_at rules side (rook_target from to rook)
    (closed_at rules side to.0 (closed_at rules side rook.0 (closed_at rules side from.0 gates)))
side_gates_after rules side (Drop kind to) gates = closed_at rules side to.0 gates

unfoldable pub gates_after : Rules → Repeat → Move → List ℕ
gates_after rules r m =
    side_gates_after rules White m (slice_index r.gates (side_index White))
    ∷ side_gates_after rules Black m (slice_index r.gates (side_index Black)) ∷ []

-- ---- the en passant square and the checks left

abbrev pub square_at : Option ℕ → Option Square
square_at None = None
square_at (Some s) = Some (record { 0 = s })

-- the square, where an enemy pawn could go there by its movement alone
abbrev pub ep_where : Rules → Side → List (Option Cell) → Option Square → Option Square
ep_where rules side later None = None
ep_where rules side later (Some passed) = if pawn_could_take rules later (other side) passed then Some passed else None

-- a pawn takes a double step and stays a pawn
abbrev pub is_double_step : Rules → Repeat → Square → Square → Promo → Bool
is_double_step rules r from to promo =
    is_own_pawn rules r.side (cell_at r.cells from.0) && is_stays promo
    && is_at to.0 (ahead (board_of rules) r.side from 2)

unfoldable pub ep_after : Rules → Repeat → Move → List (Option Cell) → Option Square
ep_after rules r (Go from to promo gate) later =
    if is_double_step rules r from to promo
    then ep_where rules r.side later (square_at (ahead (board_of rules) r.side from 1)) else None
ep_after rules r (Castle from to rook gate) later = None
ep_after rules r (Drop kind to) later = None

-- a move that attacks the enemy king takes one from the mover's count
unfoldable pub checks_after : Rules → Repeat → List (Option Cell) → List ℕ
checks_after rules r later =
    if rules.check_counting && king_attacked rules later (other r.side)
    then slice_set r.checks (side_index r.side) (slice_index r.checks (side_index r.side) - 1) else r.checks

-- ---- the position

-- what follows in the place of the repeat: no count goes into it
unfoldable pub next_repeat : Rules → Repeat → Move → Repeat
next_repeat rules r m = record {
  cells = cells_after rules r m;
  hands = hands_after rules r m;
  gates = gates_after rules r m;
  rights = rights_after rules r m (cells_after rules r m);
  checks = checks_after rules r (cells_after rules r m);
  ep = ep_after rules r m (cells_after rules r m);
  side = other r.side;
}

-- one more, and no more at 9,999
abbrev pub risen : ℕ → ℕ
risen n = if nat_lt n 9999 then n + 1 else n

abbrev pub resets_by : Rules → Option Cell → Bool
resets_by rules None = false
resets_by rules (Some c) = masks rules.n_move_kinds c.kind

-- a capture, or a move of a kind that the move-count rule names: a castle and a drop are quiet plies
unfoldable pub resets : Rules → Repeat → Move → Bool
resets rules r (Go from to promo gate) = is_some (taken rules r from to) || resets_by rules (cell_at r.cells from.0)
resets rules r (Castle from to rook gate) = false
resets rules r (Drop kind to) = false

-- the plies since the last such move
abbrev pub next_counter : Rules → Repeat → Move → ℕ → ℕ
next_counter rules r m counter = if resets rules r m then 0 else risen counter

-- the number of the move rises after Black's
abbrev pub next_number : Side → ℕ → ℕ
next_number White number = number
next_number Black number = risen number

abbrev pub with_counts : Repeat → ℕ → ℕ → Position
with_counts r counter number = record {
  cells = r.cells;
  hands = r.hands;
  gates = r.gates;
  counter = counter;
  number = number;
  rights = r.rights;
  checks = r.checks;
  ep = r.ep;
  side = r.side;
}

-- the position after the move
unfoldable pub next : Rules → Position → Move → Position
next rules p m =
    with_counts (next_repeat rules (repeat_of p) m) (next_counter rules (repeat_of p) m p.counter)
    (next_number p.side p.number)
