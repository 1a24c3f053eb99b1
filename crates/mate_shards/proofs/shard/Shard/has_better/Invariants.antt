use Rattle.mate_core.specs.Hash.{hash_of}
use Rattle.mate_shards.proofs.IndexLemmas.{Comparing}
use Rattle.mate_shards.proofs.shard.Shard.has_better.Given as goal

abbrev pub invariant-loop-at : goal.invariant-loop-at
invariant-loop-at l =
    Comparing l.self.capacity l.self.facts.items (hash_of l.given.repeat) l.given l.at

abbrev pub decreases-loop-at : goal.decreases-loop-at
decreases-loop-at l = l.at
