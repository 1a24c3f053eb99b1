use Rattle.std.proofs.Common.{◌<◌, ◌≤◌, length}
use Rattle.negamax.proofs.scored_moves.best_place.Given as goal

abbrev pub invariant-loop-i : goal.invariant-loop-i
invariant-loop-i l = (l.first ≤ l.best) × (l.best < length l.list)
