use Rattle.std.proofs.Common.{◌≡◌, vec_capacity}
use Rattle.mate_shards.proofs.RebaseLemmas.{Rebasing}
use Rattle.mate_shards.proofs.shards.Shards.rebase.Given as goal

abbrev pub invariant-loop-k : goal.invariant-loop-k
invariant-loop-k l =
    Rebasing l.fn.self l.fn.passes l.frame l.closing.items l.given.items l.locks.items l.items.items l._k × (vec_capacity l.locks ≡ l.count) × (vec_capacity l.items ≡ l.count)
