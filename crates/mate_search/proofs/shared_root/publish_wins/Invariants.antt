use Rattle.mate_search.specs.Handed.{AreHandedBack}
use Rattle.mate_search.proofs.shared_root.publish_wins.Given as goal

abbrev pub invariant-loop-place : goal.invariant-loop-place
invariant-loop-place g l = AreHandedBack l.shards l.fn.passes l.passes
