use Rattle.std.proofs.Common.{◌≡◌, ℕ, Bool, rules, arith}
use Rattle.attack_tables.specs.Goals.{IsAlikeAt}
use Rattle.move_tables.proofs.BuildLaws.{more_items}
use Rattle.attack_tables.proofs.alike.alike_kinds.Goals as goal

pub loop-k-preserved : goal.loop-k-preserved
loop-k-preserved c =
    let P : ℕ → Bool → Type 0 = λ i known. IsAlikeAt c.args.rules.now i known in
    record {
      whole = search rules;
      each = λ i l d. rw c.in_ok-push.ensures.items (more_items P c.loop-k.kinds.items c.is_alike.result c.loop-k.k c.loop-k.invariant.whole c.loop-k.invariant.each c.is_alike.ensures i l d);
    }

pub returns : goal.returns
returns c = let e : c.loop-k.k ≡ 26 = omega arith in record { whole = search rules; each = λ i l d. c.loop-k.invariant.each i (omega (arith, l, e)) d }
