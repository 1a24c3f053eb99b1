-- Which moves are asked for.
use Rattle.std.specs.Prelude.{◌≡◌, ℕ, nat_lt, Bool, true, ◌||◌, not, is_some, Option, Some, None, slice_index_or}
use Rattle.foundation.specs.Member.{Member}
use Rattle.rules_model.specs.declared.board.Cell.{Cell}
use Rattle.rules_model.specs.declared.board.Kind.{Kind}
use Rattle.rules_model.specs.declared.board.Repeat.{Repeat}
use Rattle.rules_model.specs.declared.board.Side.{Side}
use Rattle.rules_model.specs.declared.board.Square.{Square}
use Rattle.rules_model.specs.declared.moves.Move.{Move}
use Rattle.rules_model.specs.declared.moves.Move.TheVariants.{Go, Castle, Drop}
use Rattle.rules_model.specs.declared.moves.Promo.{Promo}
use Rattle.rules_model.specs.declared.moves.Promo.TheVariants.{Stays, Pawn, Plus}
use Rattle.rules_model.specs.Sides.{same_side}
use Rattle.rules_model.specs.Squares.{cell_at}
use Rattle.square_set.specs.declared.Shift.{Shift}
use Rattle.square_set.specs.Members.{has, origin}
use Rattle.legality.specs.declared.asked.Asked.{Asked}
use Rattle.legality.specs.Stance.{Stance, legal_in, repeat_in}

-- the square is one of the kind's
abbrev pub is_to : Asked → Kind → ℕ → Bool
is_to asked kind s = not (nat_lt kind.0 26) || has (slice_index_or asked.to kind.0 (record { 0 = 0 })) s

-- of a piece of the side, the square is one of its kind's
abbrev pub is_to_of : Asked → Side → Option Cell → ℕ → Bool
is_to_of asked side None s = true
is_to_of asked side (Some piece) s = not (same_side piece.side side) || is_to asked piece.kind s

-- the move of the piece on the square that stays what it is
abbrev pub is_asked_to : Asked → Repeat → Square → Option Kind → ℕ → Bool
is_asked_to asked r from gate s =
    is_some gate || not (has asked.shut from.0) || is_to_of asked r.side (cell_at r.cells from.0) s

-- of a piece of the side that becomes one of the kind, the square is one of that kind's
abbrev pub is_to_as : Asked → Side → Kind → Option Cell → ℕ → Bool
is_to_as asked side kind None s = true
is_to_as asked side kind (Some piece) s = not (same_side piece.side side) || is_to asked kind s

-- the move of the piece on the square that becomes one of the kind
abbrev pub is_asked_as : Asked → Repeat → Square → Kind → Option Kind → ℕ → Bool
is_asked_as asked r from kind gate s =
    is_some gate || not (has asked.shut from.0) || is_to_as asked r.side kind (cell_at r.cells from.0) s

-- the move of the piece on the square, by what it becomes
abbrev pub is_go_asked : Asked → Repeat → Square → Promo → Option Kind → ℕ → Bool
is_go_asked asked r from Stays gate s = is_asked_to asked r from gate s
is_go_asked asked r from (Pawn kind) gate s = is_asked_as asked r from kind gate s
is_go_asked asked r from Plus gate s = true

-- the one by the shift
abbrev pub is_asked_by : Asked → Repeat → Shift → ℕ → Bool
is_asked_by asked r shift s = is_asked_to asked r (record { 0 = origin shift s }) None s

-- the drop on the square
abbrev pub is_drop_asked : Asked → Kind → ℕ → Bool
is_drop_asked asked kind s = not (has asked.shut s) || is_to asked kind s

-- the move is asked for
abbrev pub is_asked : Asked → Repeat → Move → Bool
is_asked asked r (Go from to promo gate) = is_go_asked asked r from promo gate to.0
is_asked asked r (Castle from to rook gate) = true
is_asked asked r (Drop kind to) = is_drop_asked asked kind to.0

-- it is legal, and asked for
abbrev pub IsAskedIn : Asked → Stance → Move → Type 0
IsAskedIn asked s m = Member m (legal_in s) × (is_asked asked (repeat_in s) m ≡ true)
