use Rattle.std.proofs.Common.{◌≡◌, ℕ, rules, ◌/◌, ◌%◌, ◌<◌, sym, subst, arith}
use Rattle.square_set.specs.declared.Set.{Set}
use Rattle.move_tables.specs.Spots.{side_of}
use Rattle.move_tables.proofs.BuildLaws.{more_items}
use Rattle.attack_tables.specs.KindMasks.{IsKindMask}
use Rattle.attack_tables.specs.Masks.{IsMask}
use Rattle.attack_tables.proofs.kind_masks.kind_masks.Goals as goal

pub kind_mask_of-requires-clause-mask : goal.kind_mask_of-requires-clause-mask
kind_mask_of-requires-clause-mask c =
    let i = c.loop-i.i in
    let small = c.loop-i-test.true in
    let below : i / 26 < 240 = omega (arith, small) in
    let Of : Set → Type 0 = λ m. IsMask c.args.moves.now (side_of (i / 26 / 120)) (i / 26 % 120) m in
    rw c.side_of-side.ensures (subst Of (sym c.index-mask.ensures) (c.requires.each (i / 26) below c.index-mask.result.now))

pub loop-i-preserved : goal.loop-i-preserved
loop-i-preserved c =
    let P : ℕ → Set → Type 0 = λ k m. IsKindMask c.args.moves.now (side_of (k / 26 / 120)) (k % 26) (k / 26 % 120) m in
    record {
      whole = search rules;
      each = λ k l d. rw c.in_ok-push.ensures.items (more_items P c.loop-i.all.items c.kind_mask_of.result c.loop-i.i c.loop-i.invariant.whole c.loop-i.invariant.each (rw (sym c.side_of-side.ensures) c.kind_mask_of.ensures) k l d);
    }

pub returns : goal.returns
returns c = let e : c.loop-i.i ≡ 6240 = omega arith in record { whole = search rules; each = λ i l d. c.loop-i.invariant.each i (omega (arith, l, e)) d }
