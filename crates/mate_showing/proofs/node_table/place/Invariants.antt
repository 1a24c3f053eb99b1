use Rattle.mate_showing.proofs.Searched.{IsSought, bound}
use Rattle.mate_showing.proofs.node_table.place.Given as goal

abbrev pub invariant-loop-at : goal.invariant-loop-at
invariant-loop-at l = IsSought l.nodes l.exact l.p l.at l.found

abbrev pub decreases-loop-at : goal.decreases-loop-at
decreases-loop-at l = bound l.at
