use Rattle.square_set.specs.Members.{size}
use Rattle.position_key.specs.Changed.{IsExchanged}
use Rattle.position_key.specs.Key.{cells_sum}
use Rattle.position_key.proofs.ExchangeLemmas.{between_sum}
use Rattle.position_key.proofs.sums.with_cells.Given as goal

abbrev pub invariant-loop-at : goal.invariant-loop-at
invariant-loop-at l = IsExchanged l.fn.key (cells_sum l.before) (between_sum l.left l.before l.next) l.key

abbrev pub decreases-loop-at : goal.decreases-loop-at
decreases-loop-at l = size l.left
