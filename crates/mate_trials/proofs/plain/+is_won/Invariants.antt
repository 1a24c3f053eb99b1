use Rattle.std.proofs.Common.{◌≡◌, not, take}
use Rattle.std.specs.List.{All}
use Rattle.rules_model.specs.Sides.{same_side}
use Rattle.game_play.specs.Played.{story}
use Rattle.mate_trials.proofs.PlainLaws.{leads, plies_left}
use Rattle.mate_trials.proofs.plain.+is_won.Given as goal

abbrev pub decreases-is_won : goal.decreases-is_won
decreases-is_won l = plies_left (same_side (story l.game.now).last.side l.attacker) l.n

abbrev pub invariant-loop-i : goal.invariant-loop-i
invariant-loop-i l = record {
  kept : l.game ≡ l.fn.game;
  none : All (λ m. leads l.fn.game.rules (story l.fn.game) l.attacker l.left m ≡ not l.attacking) (take l.i l.moves.items);
}
