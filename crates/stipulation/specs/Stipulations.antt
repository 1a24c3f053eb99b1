-- Selfmates and helpmates, over games with their whole history.
use Rattle.std.specs.Prelude.{◌≡◌, ℕ, ◌*◌, ◌<◌, ◌≤◌, List, [], ◌∷◌, length, Bool, true, false, ◌&&◌, Option, Some, None}
use Rattle.foundation.specs.Member.{Member}
use Rattle.rules_model.specs.declared.board.Side.{Side}
use Rattle.rules_model.specs.declared.moves.Cause.{Cause}
use Rattle.rules_model.specs.declared.moves.Cause.TheVariants.{Flag, Checks, Extinction, Checkmate, Stalemate, Repetition, MoveCount}
use Rattle.rules_model.specs.declared.moves.Move.{Move}
use Rattle.rules_model.specs.declared.moves.Outcome.{Outcome}
use Rattle.rules_model.specs.declared.moves.Outcome.TheVariants.{Ongoing, Won, Drawn}
use Rattle.rules_model.specs.declared.rules.Rules.{Rules}
use Rattle.rules_model.specs.Repeats.{repeat_of}
use Rattle.rules_model.specs.Sides.{other, same_side}
use Rattle.rules_model.specs.Legal.{legal}
use Rattle.rules_model.specs.Games.{Story, played, story_from, result}
use Rattle.forced_wins.specs.Contests.{Contest, forced}

abbrev pub is_checkmate : Cause → Bool
is_checkmate Flag = false
is_checkmate Checks = false
is_checkmate Extinction = false
is_checkmate Checkmate = true
is_checkmate Stalemate = false
is_checkmate Repetition = false
is_checkmate MoveCount = false

-- None where the game is ongoing, else whether the side has won by checkmate
abbrev pub mated_by : Side → Outcome → Option Bool
mated_by winner Ongoing = None
mated_by winner (Won side cause) = Some (same_side side winner && is_checkmate cause)
mated_by winner (Drawn cause) = Some false

-- games that aim at a checkmate by which the other side of `a` wins: where one move is chosen some legal move must do,
-- and elsewhere each of them
abbrev pub aims : (Story → Bool) → Rules → Side → Contest Story Move
aims is_chosen rules a = record {
  end = λ g. mated_by (other a) (result rules g);
  attacking = is_chosen;
  moves = λ g. legal rules (repeat_of g.last);
  after = played rules;
}

-- ---- selfmates

-- `a` chooses its moves, and the other side replies as it likes
abbrev pub self_games : Rules → Side → Contest Story Move
self_games rules a = aims (λ g. same_side g.last.side a) rules a

-- `a` forces it by n moves of its own, whatever the other side plays
abbrev pub self_wins : Rules → ℕ → Story → Side → Bool
self_wins rules n g a = forced (self_games rules a) n g

-- ---- helpmates

-- the moves are made in turn: each is legal, in an ongoing game
abbrev pub AreInTurn : Rules → Story → List Move → Type 0
AreInTurn rules g [] = Unit {0}
AreInTurn rules g (m ∷ ms) =
    (result rules g ≡ Ongoing) × Member m (legal rules (repeat_of g.last)) × AreInTurn rules (played rules g m) ms

-- after the moves, at least one and at most 2n, the side that is not to move in the game has won by checkmate
pub record IsHelpMate (rules : Rules) (n : ℕ) (g : Story) (ms : List Move) : Type 0 where
  pub some : 0 < length ms
  pub few : length ms ≤ 2 * n
  pub in_turn : AreInTurn rules g ms
  pub mate : result rules (story_from rules g ms) ≡ Won (other g.last.side) Checkmate

-- there are such moves
abbrev pub HelpWins : Rules → ℕ → Story → Type 0
HelpWins rules n g = (ms : List Move) × IsHelpMate rules n g ms

-- both sides choose their moves
abbrev pub help_games : Rules → Side → Contest Story Move
help_games rules a = aims (λ g. true) rules a
