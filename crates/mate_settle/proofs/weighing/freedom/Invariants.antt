use Rattle.square_set.specs.Members.{size}
use Rattle.mate_settle.proofs.weighing.freedom.Given as goal

abbrev pub decreases-loop-at : goal.decreases-loop-at
decreases-loop-at l = size l.men
