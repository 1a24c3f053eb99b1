use Rattle.std.specs.Prelude.{⊤}
use Rattle.square_set.specs.Members.{size}
use Rattle.check_moves.proofs.replies.next_reply.Given as goal

abbrev pub invariant-loop-from : goal.invariant-loop-from
invariant-loop-from l = ⊤

abbrev pub decreases-loop-from : goal.decreases-loop-from
decreases-loop-from l = size l.rest
