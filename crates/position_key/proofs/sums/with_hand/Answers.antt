use Rattle.std.proofs.Common.{◌≡◌, refl, ap, arith}
use Rattle.position_key.specs.Words.{hand_word}
use Rattle.position_key.proofs.ExchangeLemmas.{sums-start, sums-step, same-exchanged}
use Rattle.position_key.proofs.sums.with_hand.Goals as goal
use Rattle.position_key.proofs.sums.with_hand.Goals.{then-was-is, else-was-is}

pub loop-kind-init : goal.loop-kind-init
loop-kind-init c = sums-start _ _ c.args.key

pub loop-kind-preserved : goal.loop-kind-preserved
loop-kind-preserved c =
    elim c.if-was-is.branch [
      | then-was-is w ↦ rw w.key-is (sums-step _ _ _ _ _ _ _ _ c.loop-kind.invariant w.exchanged-key.ensures w.hand_word.ensures w.hand_word-then-was-is.ensures)
      | else-was-is w ↦ rw w.key-is (sums-step _ _ _ _ _ _ _ _ c.loop-kind.invariant (same-exchanged _ _ _ (ap (hand_word c.args.side c.loop-kind.kind) w.if-was-is.false)) refl refl)
    ]

pub returns : goal.returns
returns c =
    let e : c.loop-kind.kind ≡ 26 = omega (arith, c.loop-kind.auto.kind-end, c.loop-kind-test.false) in
    rw e at c.loop-kind.invariant
