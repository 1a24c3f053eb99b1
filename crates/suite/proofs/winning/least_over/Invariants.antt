use Rattle.game_play.specs.Played.{story}
use Rattle.mate_shards.specs.Views.{ArePassesOf}
use Rattle.suite.proofs.LeastFor.{NoneBefore}
use Rattle.suite.proofs.winning.least_over.Given as goal

abbrev pub invariant-loop-k : goal.invariant-loop-k
invariant-loop-k g l = record {
  none : NoneBefore l.game.rules (story l.game) l.side l.k;
  passes : ArePassesOf l.shards l.passes;
}
