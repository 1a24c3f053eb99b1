use Rattle.game_play.specs.Played.{story}
use Rattle.mate_search.proofs.LeastLaws.{NoneBefore}
use Rattle.pn_search.proofs.mating.least_in.Given as goal

abbrev pub invariant-loop-k : goal.invariant-loop-k
invariant-loop-k l = NoneBefore l.game.rules (story l.game) l.k
