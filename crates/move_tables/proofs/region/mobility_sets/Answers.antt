use Rattle.std.proofs.Common.{ℕ, rules, sym}
use Rattle.square_set.specs.declared.Set.{Set}
use Rattle.move_tables.specs.Spots.{IsRegionAt}
use Rattle.move_tables.proofs.BuildLaws.{more_items}
use Rattle.move_tables.proofs.region.mobility_sets.Goals as goal

pub loop-i-preserved : goal.loop-i-preserved
loop-i-preserved c =
    let P : ℕ → Set → Type 0 = λ k s. IsRegionAt c.args.rules.now k s in
    record {
      whole = search rules;
      each = λ k l d. rw c.in_ok-push.ensures.items (more_items P c.loop-i.sets.items c.mobility_set.result c.loop-i.i c.loop-i.invariant.whole c.loop-i.invariant.each (rw (sym c.side_of.ensures) c.mobility_set.ensures) k l d);
    }
