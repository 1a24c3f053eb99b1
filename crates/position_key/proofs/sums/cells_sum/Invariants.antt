use Rattle.std.proofs.Common.{◌≡◌, ◌%◌, ◌^◌}
use Rattle.rules_model.specs.Squares.{cell_at}
use Rattle.position_key.specs.Key.{sum_below}
use Rattle.position_key.specs.Words.{cell_word}
use Rattle.position_key.proofs.sums.cells_sum.Given as goal

abbrev pub invariant-loop-at : goal.invariant-loop-at
invariant-loop-at l = l.sum ≡ sum_below (λ s. cell_word s (cell_at l.cells s)) l.at % 2 ^ 64
