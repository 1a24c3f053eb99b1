use Rattle.position_key.proofs.PackedLemmas.{Filled}
use Rattle.position_key.proofs.cells.in_threes.Given as goal

abbrev pub invariant-loop-k : goal.invariant-loop-k
invariant-loop-k l = Filled l.words l.cells l.k
