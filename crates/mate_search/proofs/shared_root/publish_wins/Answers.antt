use Rattle.std.proofs.Common.{sym, subst}
use Rattle.mate_search.proofs.HandedLaws.{handed_more, handed_none}
use Rattle.mate_search.specs.Handed.{AreHandedBack}
use Rattle.mate_search.proofs.shared_root.publish_wins.Goals as goal
use Rattle.mate_search.proofs.shared_root.publish_wins.Goals.{in-Some+then-fact, in-Some+else-fact, in_default}

pub loop-place-init : goal.loop-place-init
loop-place-init g c = handed_none c.args.shards.now c.args.passes.now c.requires.passes

pub loop-place-preserved : goal.loop-place-preserved
loop-place-preserved g c =
    let s = c.args.shards.now in
    elim c.match-at.branch [
      | in-Some+then-fact w ↦ subst (AreHandedBack s c.args.passes.now) (sym w.passes-is)
          (handed_more s _ _ _ c.loop-place.invariant (record { passes = w.publish.ensures.passes; parts = w.publish.ensures.parts; grown = w.publish.ensures.grown }))
      | in-Some+else-fact w ↦ subst (AreHandedBack s c.args.passes.now) (sym w.passes-is) c.loop-place.invariant
      | in_default w ↦ subst (AreHandedBack s c.args.passes.now) (sym w.passes-is) c.loop-place.invariant
    ]
