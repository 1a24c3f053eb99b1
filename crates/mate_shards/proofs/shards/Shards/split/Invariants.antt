use Rattle.std.proofs.Common.{◌≡◌, vec_capacity}
use Rattle.mate_shards.proofs.PassLemmas.{Splitting}
use Rattle.mate_shards.proofs.shards.Shards.split.Given as goal

abbrev pub invariant-loop-k : goal.invariant-loop-k
invariant-loop-k l =
    Splitting l.self l.fn.passes l.items.items l.given.items l.k × (vec_capacity l.given ≡ l.count)
