use Rattle.std.proofs.Common.{arith}
use Rattle.suite.proofs.at_once.all_end_won.Goals as goal

pub ends_won-requires-clause-legal : goal.ends_won-requires-clause-legal
ends_won-requires-clause-legal c =
    rw c.loop-reply.invariant.same (c.requires.legal c.loop-reply.reply-index _ (omega arith))
