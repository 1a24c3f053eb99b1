use Rattle.std.proofs.Common.{◌≡◌, take}
use Rattle.mate_shards.proofs.same_rules.are_same_terms.Given as goal

abbrev pub invariant-loop-k : goal.invariant-loop-k
invariant-loop-k l = take l.k l.a ≡ take l.k l.b
