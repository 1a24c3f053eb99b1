use Rattle.std.specs.Prelude.{slice_index}
use Rattle.position_key.specs.Changed.{IsExchanged}
use Rattle.position_key.specs.Key.{sum_below}
use Rattle.position_key.specs.Words.{hand_word}
use Rattle.position_key.proofs.sums.with_hand.Given as goal

abbrev pub invariant-loop-kind : goal.invariant-loop-kind
invariant-loop-kind l =
    IsExchanged l.fn.key
    (sum_below (λ kind. hand_word l.side kind (slice_index l.before kind)) l.kind)
    (sum_below (λ kind. hand_word l.side kind (slice_index l.next kind)) l.kind) l.key
