use Rattle.std.proofs.Common.{◌≤◌}
use Rattle.speeds.proofs.store.call_all.Given as goal

abbrev pub invariant-loop-p : goal.invariant-loop-p
invariant-loop-p g l = g.S.Store.serves l.store l.right × (l.done ≤ l.p-index)
