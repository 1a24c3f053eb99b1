-- Leaps of the other side's pieces, and when a move leaves one legal.
use Rattle.std.specs.Prelude.{◌≡◌, ℕ, ◌<◌, true, false, not, ◌&&◌, ◌||◌, ◌==◌, is_some, Option, Some, None, List, length, IfSome}
use Rattle.foundation.specs.Member.{Member}
use Rattle.rules_model.specs.declared.board.Cell.{Cell}
use Rattle.rules_model.specs.declared.moves.Move.{Move}
use Rattle.rules_model.specs.declared.moves.Move.TheVariants.{Go}
use Rattle.rules_model.specs.declared.moves.Promo.TheVariants.{Stays}
use Rattle.rules_model.specs.Ends.{early_end, is_ongoing}
use Rattle.rules_model.specs.Kinds.{is_king, is_pawn}
use Rattle.rules_model.specs.Legal.{legal}
use Rattle.rules_model.specs.Next.{cells_after}
use Rattle.rules_model.specs.Sides.{other}
use Rattle.rules_model.specs.Squares.{cell_at}
use Rattle.square_set.specs.declared.Set.{Set}
use Rattle.square_set.specs.Members.{has}
use Rattle.move_tables.specs.declared.mode.Mode.TheVariants.{Quiet}
use Rattle.move_tables.specs.Occupied.{AreKings, IsOccupied}
use Rattle.move_tables.specs.Reached.{reaches_as}
use Rattle.legality.specs.Stance.{Stance, repeat_in}
use Rattle.check_moves.specs.declared.replies.Coming.{Coming}
use Rattle.check_moves.specs.declared.replies.Leaper.{Leaper}
use Rattle.check_moves.specs.declared.replies.Replies.{Replies}
use Rattle.check_moves.specs.declared.replies.Reply.{Reply}
use Rattle.check_moves.specs.Checks.{ComesTo}
use Rattle.check_moves.specs.Flights.{are_steps_plain, repeat_after}
use Rattle.check_moves.specs.Shut.{AreShut}

-- a piece of the kind stands there, of the side that is not to move, neither a king nor a pawn; and the rules ask no
-- more of its quiet moves than that no king of its side is attacked after them
pub record IsLeaper (s : Stance) (leaper : Leaper) : Type 0 where
  pub small : leaper.from < 120
  pub letter : leaper.kind.0 < 26
  pub plain : are_steps_plain s.rules ≡ true
  pub no_pawn : is_pawn s.rules leaper.kind ≡ false
  pub no_king : is_king s.rules leaper.kind ≡ false
  pub piece : Cell
  pub there : cell_at s.position.cells leaper.from ≡ Some piece
  pub of_side : piece.side ≡ other s.position.side
  pub of_kind : piece.kind ≡ leaper.kind

-- the square is empty, and the piece reaches it quietly whatever stands on the board
pub record IsLeapTo (s : Stance) (leaper : Leaper) (to : ℕ) : Type 0 where
  pub empty : cell_at s.position.cells to ≡ None
  pub reached : (occupied : Set) (board : List (Option Cell)) → IsOccupied occupied board
      → reaches_as s.rules board (other s.position.side) leaper.kind (record { 0 = leaper.from }) Quiet to ≡ true

-- such a leap of such a piece, and squares that open no line to the kings of its side once it is made
pub record IsReply (s : Stance) (reply : Reply) : Type 0 where
  pub leaper : IsLeaper s reply.leaper
  pub leap : IsLeapTo s reply.leaper reply.to
  pub small : reply.to < 120
  pub kings : AreKings s.rules (other s.position.side) s.position.cells reply.kings
  pub stepped : (t : ℕ) →
      has reply.stepped t
      ≡ ((is_some (cell_at s.position.cells t) && not (t == reply.leaper.from)) || (t == reply.to))
  pub shut : AreShut s.rules s.position.side s.position.cells reply.stepped reply.kings reply.shut

-- each is a leap in the position
pub record AreReplies (s : Stance) (replies : Replies) : Type 0 where
  pub first : IfSome replies.first (IsReply s)
  pub second : IfSome replies.second (IsReply s)

-- by the move a piece of the side to move and of the kind leaves the one square for the other, and nothing else changes
pub record IsComing (s : Stance) (m : Move) (coming : Coming) : Type 0 where
  pub from : coming.from < 120
  pub to : coming.to < 120
  pub long : length (cells_after s.rules (repeat_in s) m) ≡ 120
  pub comes :
      ComesTo s.position.side coming.kind s.position.cells coming.from coming.to (cells_after s.rules (repeat_in s) m)

abbrev pub leap_of : Reply → Move
leap_of reply = Go (record { 0 = reply.leaper.from }) (record { 0 = reply.to }) Stays None

-- after each move by which the piece comes the leap is legal, if the game goes on
abbrev pub StaysLegal : Stance → Reply → Coming → Type 0
StaysLegal s reply coming =
    (m : Move) → IsComing s m coming → is_ongoing (early_end s.rules (repeat_after s m)) ≡ true
    → Member (leap_of reply) (legal s.rules (repeat_after s m))
