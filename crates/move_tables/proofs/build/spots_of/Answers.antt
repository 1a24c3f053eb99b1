use Rattle.std.proofs.Common.{rules}
use Rattle.move_tables.specs.declared.spot.Spot.{Spot}
use Rattle.move_tables.specs.Spots.{IsSpotAt}
use Rattle.std.proofs.Common.{ℕ}
use Rattle.move_tables.proofs.BuildLaws.{more_items}
use Rattle.move_tables.proofs.build.spots_of.Goals as goal

pub loop-i-preserved : goal.loop-i-preserved
loop-i-preserved c =
    let P : ℕ → Spot → Type 0 = λ k s. IsSpotAt c.args.rules.now k s in
    record {
      whole = search rules;
      each = λ k l d. rw c.in_ok-push.ensures.items (more_items P c.loop-i.spots.items c.in_ok-spot_at.field-0 c.loop-i.i c.loop-i.invariant.whole c.loop-i.invariant.each c.in_ok-spot_at.ensures k l d);
    }
