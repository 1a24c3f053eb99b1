use Rattle.square_set.specs.Members.{size}
use Rattle.end_rules.proofs.TallyLaws.{IsCounted}
use Rattle.end_rules.proofs.extinction.tallies_of.Given as goal

abbrev pub invariant-loop-at : goal.invariant-loop-at
invariant-loop-at l = IsCounted l.cells l.fn.occupied l.left l.tallies

abbrev pub decreases-loop-at : goal.decreases-loop-at
decreases-loop-at l = size l.left
