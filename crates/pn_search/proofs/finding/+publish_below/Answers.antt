use Rattle.std.proofs.Common.{sym, subst}
use Rattle.mate_search.specs.Handed.{AreHandedBack}
use Rattle.mate_search.proofs.HandedLaws.{handed_more}
use Rattle.pn_search.proofs.finding.+publish_below.Goals as goal
use Rattle.pn_search.proofs.finding.+publish_below.Goals.{in-Some, in_default}

pub loop-k-preserved : goal.loop-k-preserved
loop-k-preserved g t c =
    elim c.match-settled_child.branch [
      | in-Some w ↦ subst (λ ps. AreHandedBack c.args.shards.now c.args.passes.now ps) (sym w.passes-is) (handed_more c.args.shards.now c.args.passes.now c.loop-k.passes w.publish_below.new.passes c.loop-k.invariant w.publish_below.ensures)
      | in_default w ↦ subst (λ ps. AreHandedBack c.args.shards.now c.args.passes.now ps) (sym w.passes-is) c.loop-k.invariant
    ]
