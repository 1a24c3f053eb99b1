use Rattle.mate_shards.proofs.PassLemmas.{Joining}
use Rattle.mate_shards.proofs.shards.Shards.join.Given as goal

abbrev pub invariant-loop-k : goal.invariant-loop-k
invariant-loop-k l = Joining l.self l.fn.a l.fn.b l.items.items l.others.items l.k
