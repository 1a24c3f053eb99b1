use Rattle.std.proofs.Common.{◌%◌, ◌^◌, ap, sym}
use Rattle.position_key.proofs.SumLemmas.{sum_below-zero}
use Rattle.position_key.proofs.ExchangeLemmas.{sum-step}
use Rattle.position_key.proofs.sums.cells_sum.Goals as goal

pub loop-at-init : goal.loop-at-init
loop-at-init c = sym (ap (λ k. k % 2 ^ 64) (sum_below-zero _))

pub loop-at-preserved : goal.loop-at-preserved
loop-at-preserved c = sum-step _ _ _ _ c.loop-at.invariant (rw c.cell_at.ensures at c.cell_word-sum.ensures)
