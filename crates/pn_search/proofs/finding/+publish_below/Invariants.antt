use Rattle.std.proofs.Common.{◌-◌, length}
use Rattle.mate_search.specs.Handed.{AreHandedBack}
use Rattle.pn_search.proofs.finding.+publish_below.Given as goal

abbrev pub decreases-publish_below : goal.decreases-publish_below
decreases-publish_below g l = length l.tree.now.nodes - l.place

abbrev pub invariant-loop-k : goal.invariant-loop-k
invariant-loop-k g l = AreHandedBack l.shards l.fn.passes l.passes
