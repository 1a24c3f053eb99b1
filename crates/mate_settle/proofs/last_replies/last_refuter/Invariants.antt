use Rattle.std.proofs.Common.{◌≡◌}
use Rattle.mate_settle.proofs.last_replies.last_refuter.Given as goal

abbrev pub invariant-loop-at : goal.invariant-loop-at
invariant-loop-at l = l.facts ≡ l.fn.facts
