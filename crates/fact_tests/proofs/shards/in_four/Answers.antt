use Rattle.std.proofs.Common.{lit≤}
use Rattle.mate_shards.proofs.GrownLaws.{two-parts}
use Rattle.fact_tests.proofs.shards.in_four.Goals as goal

pub split-requires-clause-parts : goal.split-requires-clause-parts
split-requires-clause-parts c = two-parts 65536 _ c.requires.parts (lit≤ tt)

pub split-requires-2-clause-parts : goal.split-requires-2-clause-parts
split-requires-2-clause-parts c = two-parts 65535 _ (c.in-Ok.ensures.parts 65535 c.requires.parts) (lit≤ tt)

pub split-requires-3-clause-parts : goal.split-requires-3-clause-parts
split-requires-3-clause-parts c =
    two-parts 65534 _ (c.in-Ok-split.ensures.parts 65534 (c.in-Ok.ensures.parts 65535 c.requires.parts)) (lit≤ tt)
