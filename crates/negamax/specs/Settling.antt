-- Moves that are settled without being entered.
use Rattle.std.specs.Prelude.{◌≡◌, ℕ, ℤ, neg_ℤ, ◌≤ℤ◌, Option, IfSome}
use Rattle.std.specs.Bool.{OnTrue}
use Rattle.rules_model.specs.declared.moves.Move.{Move}
use Rattle.rules_model.specs.declared.moves.Outcome.TheVariants.{Ongoing}
use Rattle.rules_model.specs.Games.{played, result}
use Rattle.check_moves.specs.declared.flights.KnownFlights.{KnownFlights}
use Rattle.check_moves.specs.declared.replies.Replies.{Replies}
use Rattle.check_moves.specs.Flights.{AreFlights}
use Rattle.check_moves.specs.Replies.{AreReplies}
use Rattle.evaluation.specs.Values.{play, quiet}
use Rattle.game_line.specs.Lined.{EndsByStuckAlone, Lined, stance_of_line, story_of_line}
use Rattle.negamax.specs.declared.settling.Settling.{Settling}

-- a move ends the game only where it leaves no legal move, and the steps and the leaps that were looked for are those
-- of the position
pub record AreKnown (l : Lined) (flights : KnownFlights) (replies : Option Replies) : Type 0 where
  pub ends : EndsByStuckAlone l
  pub steps : AreFlights (stance_of_line l) flights
  pub leaps : IfSome replies (AreReplies (stance_of_line l))

abbrev pub Knows : Lined → Settling → Type 0
Knows l s = OnTrue s.sure (AreKnown l s.flights s.replies)

-- after the move the game goes on
abbrev pub GoesOn : Lined → Move → Type 0
GoesOn l m = result l.rules (played l.rules (story_of_line l) m) ≡ Ongoing

-- the move scores this at most, whatever captures are looked at after it
abbrev pub ScoresMost : Lined → Move → ℤ → Type 0
ScoresMost l m most =
    (limit ply : ℕ) → neg_ℤ (quiet (play l.rules) limit ply (played l.rules (story_of_line l) m)) ≤ℤ most
