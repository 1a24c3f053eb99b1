use Rattle.std.proofs.Common.{◌≡◌, ◌%◌, ◌^◌}
use Rattle.std.specs.Prelude.{slice_index}
use Rattle.position_key.specs.Key.{sum_below}
use Rattle.position_key.specs.Words.{hand_word}
use Rattle.position_key.proofs.sums.hand_sum.Given as goal

abbrev pub invariant-loop-kind : goal.invariant-loop-kind
invariant-loop-kind l = l.sum ≡ sum_below (λ kind. hand_word l.side kind (slice_index l.hand kind)) l.kind % 2 ^ 64
