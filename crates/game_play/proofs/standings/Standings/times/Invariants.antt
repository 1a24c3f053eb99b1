use Rattle.rules_model.specs.Repeats.{repeat_of}
use Rattle.game_play.proofs.StandingLemmas.{IsAhead}
use Rattle.game_play.proofs.standings.Standings.times.Given as goal

abbrev pub invariant-loop-at : goal.invariant-loop-at
invariant-loop-at l = IsAhead l.self-inside.positions.items (repeat_of l.p) l.at

abbrev pub decreases-loop-at : goal.decreases-loop-at
decreases-loop-at l = l.at
