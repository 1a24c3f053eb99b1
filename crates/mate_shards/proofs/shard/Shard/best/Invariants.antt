use Rattle.std.specs.Option.{option_copied}
use Rattle.mate_core.specs.Hash.{hash_of}
use Rattle.mate_shards.proofs.IndexLemmas.{Looking}
use Rattle.mate_shards.proofs.shard.Shard.best.Given as goal

abbrev pub invariant-loop-at : goal.invariant-loop-at
invariant-loop-at l =
    Looking l.self.capacity l.self.facts.items (hash_of l.query.repeat) l.query.repeat l.query.counter l.query.moves l.at (option_copied l.found)

abbrev pub decreases-loop-at : goal.decreases-loop-at
decreases-loop-at l = l.at
