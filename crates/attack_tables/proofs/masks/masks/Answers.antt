use Rattle.std.proofs.Common.{◌≡◌, ℕ, rules, ◌/◌, ◌%◌, sym, arith}
use Rattle.square_set.specs.declared.Set.{Set}
use Rattle.move_tables.specs.Spots.{side_of}
use Rattle.move_tables.proofs.BuildLaws.{more_items}
use Rattle.attack_tables.specs.Masks.{IsMaskBelow}
use Rattle.attack_tables.proofs.masks.masks.Goals as goal

pub loop-i-preserved : goal.loop-i-preserved
loop-i-preserved c =
    let P : ℕ → Set → Type 0 = λ k m. IsMaskBelow c.args.moves.now (side_of (k / 120)) 120 (k % 120) m in
    record {
      whole = search rules;
      each = λ k l d. rw c.in_ok-push.ensures.items (more_items P c.loop-i.masks.items c.mask_of.result c.loop-i.i c.loop-i.invariant.whole c.loop-i.invariant.each (rw (sym c.side_of.ensures) c.mask_of.ensures) k l d);
    }

pub returns : goal.returns
returns c = let e : c.loop-i.i ≡ 240 = omega arith in record { whole = search rules; each = λ i l d. c.loop-i.invariant.each i (omega (arith, l, e)) d }
