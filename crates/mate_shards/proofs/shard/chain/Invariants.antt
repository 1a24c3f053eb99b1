use Rattle.std.proofs.Common.{◌≡◌, take, vec_len, vec_capacity}
use Rattle.mate_shards.specs.Index.{IsIndex, buckets}
use Rattle.mate_shards.proofs.shard.chain.Given as goal

abbrev pub invariant-loop-i : goal.invariant-loop-i
invariant-loop-i l =
    IsIndex (buckets l.count (take l.i l.facts)) l.heads.items l.links.items × (vec_len l.heads ≡ vec_len l.fn.heads) × (vec_capacity l.links ≡ vec_capacity l.fn.links)
