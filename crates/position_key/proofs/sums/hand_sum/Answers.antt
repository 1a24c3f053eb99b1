use Rattle.std.proofs.Common.{◌%◌, ◌^◌, ap, sym}
use Rattle.position_key.proofs.SumLemmas.{sum_below-zero}
use Rattle.position_key.proofs.ExchangeLemmas.{sum-step}
use Rattle.position_key.proofs.sums.hand_sum.Goals as goal

pub loop-kind-init : goal.loop-kind-init
loop-kind-init c = sym (ap (λ k. k % 2 ^ 64) (sum_below-zero _))

pub loop-kind-preserved : goal.loop-kind-preserved
loop-kind-preserved c = sum-step _ _ _ _ c.loop-kind.invariant c.hand_word-sum.ensures
