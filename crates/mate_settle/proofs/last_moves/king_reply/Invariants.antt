use Rattle.square_set.specs.Members.{size}
use Rattle.mate_settle.proofs.last_moves.king_reply.Given as goal

abbrev pub decreases-loop-to : goal.decreases-loop-to
decreases-loop-to l = size l.steps
