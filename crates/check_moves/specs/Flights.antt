-- Steps of the other side's king, and when a move leaves one open.
use Rattle.std.specs.Prelude.{◌≡◌, ℕ, ◌<◌, Bool, true, false, not, ◌&&◌, ◌||◌, ◌==◌, is_some, Option, Some, None, List, length, slice_set, IfSome}
use Rattle.std.specs.List.{All}
use Rattle.foundation.specs.Member.{Member}
use Rattle.rules_model.specs.declared.board.Cell.{Cell}
use Rattle.rules_model.specs.declared.board.Kind.{Kind}
use Rattle.rules_model.specs.declared.board.Repeat.{Repeat}
use Rattle.rules_model.specs.declared.board.Side.{Side}
use Rattle.rules_model.specs.declared.moves.Move.{Move}
use Rattle.rules_model.specs.declared.moves.Move.TheVariants.{Go}
use Rattle.rules_model.specs.declared.moves.Promo.TheVariants.{Stays}
use Rattle.rules_model.specs.declared.rules.Rules.{Rules}
use Rattle.rules_model.specs.Attacks.{is_own_king, king_attacked}
use Rattle.rules_model.specs.Ends.{early_end, is_ongoing}
use Rattle.rules_model.specs.Kinds.{is_pawn}
use Rattle.rules_model.specs.Legal.{legal}
use Rattle.rules_model.specs.Next.{next_repeat}
use Rattle.rules_model.specs.Regions.{castling_square}
use Rattle.rules_model.specs.Sides.{other}
use Rattle.rules_model.specs.Squares.{cell_at}
use Rattle.square_set.specs.declared.Set.{Set}
use Rattle.square_set.specs.Members.{has}
use Rattle.move_tables.specs.declared.mode.Mode.TheVariants.{Quiet, Take}
use Rattle.move_tables.specs.Occupied.{IsOccupied}
use Rattle.move_tables.specs.Reached.{reaches_as}
use Rattle.legality.specs.Stance.{Stance, repeat_in}
use Rattle.check_moves.specs.declared.flights.Flight.{Flight}
use Rattle.check_moves.specs.declared.flights.KnownFlights.{KnownFlights}
use Rattle.check_moves.specs.declared.flights.LoneKing.{LoneKing}
use Rattle.check_moves.specs.Checks.{ComesTo}
use Rattle.check_moves.specs.Shut.{AreShut}

-- no rule asks more of a quiet move of a piece but a pawn, of a king's step and of a leap, than that it is a move of
-- its kind and no castle, after which no king of its side is attacked
unfoldable pub are_steps_plain : Rules → Bool
are_steps_plain rules =
    rules.checking && not rules.flying && not rules.must_capture && not rules.immobile_bad
    && not rules.must_promote_piece

-- from the king's castling square to a target of castling
unfoldable pub is_castling_step : Rules → Side → ℕ → ℕ → Bool
is_castling_step rules side king to =
    (king == castling_square rules side rules.castle_king)
    && ((to == castling_square rules side rules.castle_near) || (to == castling_square rules side rules.castle_far))

abbrev pub has_king : Stance → ℕ → Bool
has_king s t = is_own_king s.rules (other s.position.side) (cell_at s.position.cells t)

-- the side that is not to move has no king but on this square
abbrev pub IsOnlyKing : Stance → ℕ → Type 0
IsOnlyKing s at = (t : ℕ) → has_king s t ≡ true → t ≡ at

-- that side's piece of the kind stands there, its only king if it is one, and its steps are plain
pub record IsLoneKing (s : Stance) (king : LoneKing) : Type 0 where
  pub small : king.at < 120
  pub letter : king.kind.0 < 26
  pub plain : are_steps_plain s.rules ≡ true
  pub no_pawn : is_pawn s.rules king.kind ≡ false
  pub only : IsOnlyKing s king.at
  pub piece : Cell
  pub there : cell_at s.position.cells king.at ≡ Some piece
  pub of_side : piece.side ≡ other s.position.side
  pub of_kind : piece.kind ≡ king.kind

-- a step of that king to an empty square which is no target of castling, and squares that open no line to this square
pub record IsFlight (s : Stance) (flight : Flight) : Type 0 where
  pub king : IsLoneKing s flight.king
  pub small : flight.to < 120
  pub empty : cell_at s.position.cells flight.to ≡ None
  pub no_castling : is_castling_step s.rules (other s.position.side) flight.king.at flight.to ≡ false
  pub target : has flight.target flight.to ≡ true
  pub stepped : (t : ℕ) →
      has flight.stepped t
      ≡ ((is_some (cell_at s.position.cells t) && not (t == flight.king.at)) || (t == flight.to))
  pub shut :
      AreShut s.rules s.position.side s.position.cells flight.stepped flight.target flight.shut

-- the king and each step are those of the position
pub record AreFlights (s : Stance) (flights : KnownFlights) : Type 0 where
  pub king : IfSome flights.king (IsLoneKing s)
  pub each : All (λ o. IfSome o (IsFlight s)) flights.found

-- the cells once what stands on the one square went to the other
abbrev pub carried : List (Option Cell) → ℕ → ℕ → List (Option Cell)
carried cells from to = slice_set (slice_set cells from None) to (cell_at cells from)

-- on these later cells the king still stands there and reaches the empty square, and after the step it is not attacked
pub record IsOpen (s : Stance) (flight : Flight) (later : List (Option Cell)) : Type 0 where
  pub stays : cell_at later flight.king.at ≡ cell_at s.position.cells flight.king.at
  pub empty : cell_at later flight.to ≡ None
  pub reached :
      reaches_as s.rules later (other s.position.side) flight.king.kind (record { 0 = flight.king.at }) Quiet flight.to
      ≡ true
  pub safe : king_attacked s.rules (carried later flight.king.at flight.to) (other s.position.side) ≡ false

-- so it is once a piece of the side to move and of the kind has left the one square for the other
abbrev pub StaysOpen : Stance → Flight → Kind → ℕ → ℕ → Type 0
StaysOpen s flight kind from to =
    (later : List (Option Cell)) → length later ≡ 120
    → ComesTo s.position.side kind s.position.cells from to later → IsOpen s flight later

-- on these later cells the king still stands there and takes a piece on the square, after which it is not attacked
pub record MayBeTaken (s : Stance) (flight : Flight) (later : List (Option Cell)) : Type 0 where
  pub stays : cell_at later flight.king.at ≡ cell_at s.position.cells flight.king.at
  pub piece : Cell
  pub there : cell_at later flight.to ≡ Some piece
  pub of_side : piece.side ≡ s.position.side
  pub reached :
      reaches_as s.rules later (other s.position.side) flight.king.kind (record { 0 = flight.king.at }) Take flight.to
      ≡ true
  pub safe : king_attacked s.rules (carried later flight.king.at flight.to) (other s.position.side) ≡ false

-- so it is once a piece of the side to move has left the one square for that of the step
abbrev pub IsTaken : Stance → Flight → ℕ → Type 0
IsTaken s flight from =
    (kind : Kind) (later : List (Option Cell)) → length later ≡ 120
    → ComesTo s.position.side kind s.position.cells from flight.to later → MayBeTaken s flight later

abbrev pub step_of : Flight → Move
step_of flight = Go (record { 0 = flight.king.at }) (record { 0 = flight.to }) Stays None

-- what a repetition compares of the position after the move
abbrev pub repeat_after : Stance → Move → Repeat
repeat_after s m = next_repeat s.rules (repeat_in s) m

-- after the move the step is legal, if the game goes on
abbrev pub LeavesStep : Stance → Flight → Move → Type 0
LeavesStep s flight m =
    is_ongoing (early_end s.rules (repeat_after s m)) ≡ true
    → Member (step_of flight) (legal s.rules (repeat_after s m))

-- the king makes the step whatever stands on the board
abbrev pub IsLeap : Stance → Flight → Type 0
IsLeap s flight =
    (occupied : Set) (board : List (Option Cell)) → IsOccupied occupied board
    → reaches_as s.rules board (other s.position.side) flight.king.kind (record { 0 = flight.king.at }) Quiet flight.to
    ≡ true

-- the king takes on the step's square whatever stands on the board
abbrev pub TakesThere : Stance → Flight → Type 0
TakesThere s flight =
    (occupied : Set) (board : List (Option Cell)) → IsOccupied occupied board
    → reaches_as s.rules board (other s.position.side) flight.king.kind (record { 0 = flight.king.at }) Take flight.to
    ≡ true

-- after the move the other side has a legal move, if the game goes on
pub record IsMet (s : Stance) (m : Move) : Type 0 where
  pub reply : Move
  pub legal :
      is_ongoing (early_end s.rules (repeat_after s m)) ≡ true → Member reply (legal s.rules (repeat_after s m))
