-- The rules of play as the side that attacks sees them.
use Rattle.std.specs.Prelude.{◌*◌, Bool, true, false, not, ◌&&◌, Option, Some, None}
use Rattle.rules_model.specs.declared.board.Position.{Position}
use Rattle.rules_model.specs.declared.board.Repeat.{Repeat}
use Rattle.rules_model.specs.declared.board.Side.{Side}
use Rattle.rules_model.specs.declared.moves.Cause.{Cause}
use Rattle.rules_model.specs.declared.moves.Cause.TheVariants.{Flag, Checks, Extinction, Checkmate, Stalemate, Repetition, MoveCount}
use Rattle.rules_model.specs.declared.moves.Move.{Move}
use Rattle.rules_model.specs.declared.moves.Outcome.{Outcome}
use Rattle.rules_model.specs.declared.moves.Outcome.TheVariants.{Ongoing, Won, Drawn}
use Rattle.rules_model.specs.declared.rules.Rules.{Rules}
use Rattle.rules_model.specs.Repeats.{repeat_of}
use Rattle.rules_model.specs.Sides.{same_side}
use Rattle.rules_model.specs.Moves.{same_move}
use Rattle.rules_model.specs.Next.{next}
use Rattle.rules_model.specs.Legal.{legal, own_end}
use Rattle.rules_model.specs.Games.{Story, same_repeat}
use Rattle.forced_wins.specs.Games as AnyGame

abbrev pub is_repetition : Cause → Bool
is_repetition Flag = false
is_repetition Checks = false
is_repetition Extinction = false
is_repetition Checkmate = false
is_repetition Stalemate = false
is_repetition Repetition = true
is_repetition MoveCount = false

-- None where the game is ongoing, else whether `a` has won it, by a cause other than repetition
abbrev pub won_by : Side → Outcome → Option Bool
won_by a Ongoing = None
won_by a (Won side cause) = Some (same_side side a && not (is_repetition cause))
won_by a (Drawn cause) = Some false

abbrev pub seen_by : Rules → Side → AnyGame.Game Position Repeat Move
seen_by rules a = record {
  repeat = repeat_of;
  same = same_repeat;
  same_move = same_move;
  counter = λ p. p.counter;
  own = λ p. won_by a (own_end rules (repeat_of p));
  attacking = λ p. same_side p.side a;
  legal = λ p. legal rules (repeat_of p);
  next = next rules;
  fold = rules.n_fold;
  limit = 2 * rules.n_move;
}

-- a game of play as one of any game
abbrev pub as_any : Story → AnyGame.Story Position
as_any g = record { earlier = g.earlier; last = g.last }
