use Rattle.std.proofs.Common.{lit≤}
use Rattle.mate_shards.proofs.GrownLaws.{two-parts}
use Rattle.fact_tests.proofs.shards.reopened.Goals as goal

pub split-requires-clause-parts : goal.split-requires-clause-parts
split-requires-clause-parts c = two-parts 65536 _ c.requires.parts (lit≤ tt)

pub rebase-requires-clause-parts : goal.rebase-requires-clause-parts
rebase-requires-clause-parts c =
    c.join-joined.ensures.parts 65535 1 (c.in-Ok.ensures.parts 65535 c.requires.parts) c.in-Ok.ensures.part
