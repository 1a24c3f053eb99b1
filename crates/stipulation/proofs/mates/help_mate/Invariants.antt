use Rattle.std.proofs.Common.{◌≡◌, ◌+◌, ◌-◌, ◌*◌, ◌≤◌, false}
use Rattle.game_play.specs.Played.{story}
use Rattle.forced_wins.specs.Contests.{within}
use Rattle.stipulation.specs.Searches.{help_found, least_found}
use Rattle.stipulation.specs.Stipulations.{help_games}
use Rattle.stipulation.proofs.mates.help_mate.Given as goal

abbrev pub invariant-loop-plies : goal.invariant-loop-plies
invariant-loop-plies l = record {
  task : l.facts ≡ l.initial.facts;
  least : 1 ≤ l.plies;
  least_found : help_found l.game.rules l.n (story l.game) ≡ least_found (help_games l.game.rules (story l.game).last.side) (2 * l.n + 1 - l.plies) l.plies (story l.game);
  none : within (help_games l.game.rules (story l.game).last.side) (l.plies - 1) (story l.game) ≡ false;
}
