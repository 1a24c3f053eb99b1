use Rattle.std.proofs.Common.{◌≡◌, ◌-◌, ◌≤◌, vec_len, vec_capacity}
use Rattle.mate_shards.proofs.PassLemmas.{AreMade}
use Rattle.mate_shards.proofs.shards.Shards.new.Given as goal

abbrev pub invariant-loop-alloc : goal.invariant-loop-alloc
invariant-loop-alloc l =
    AreMade l.frame l.capacity l.locks.items l.items.items × (vec_len l.locks ≤ l.count) × (vec_capacity l.locks ≡ l.count) × (vec_capacity l.items ≡ l.count)

abbrev pub decreases-loop-alloc : goal.decreases-loop-alloc
decreases-loop-alloc l = l.count - vec_len l.locks
