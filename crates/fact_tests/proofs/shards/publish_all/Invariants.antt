use Rattle.mate_shards.specs.Views.{ArePassesOf}
use Rattle.fact_tests.proofs.shards.publish_all.Given as goal

abbrev pub invariant-loop-number : goal.invariant-loop-number
invariant-loop-number g l = ArePassesOf l.shards l.passes
