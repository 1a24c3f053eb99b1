use Rattle.std.proofs.Common.{length, unwrap_or}
use Rattle.key_index.proofs.WalkLemmas.{IsWalking}
use Rattle.key_index.proofs.key_index.KeyIndex.last_before.Given as goal

abbrev pub invariant-loop-at : goal.invariant-loop-at
invariant-loop-at l = IsWalking l.self (length l.self-inside.heads.items) l.key (unwrap_or l.fn.given (length l.self)) l.at

abbrev pub decreases-loop-at : goal.decreases-loop-at
decreases-loop-at l = l.at
