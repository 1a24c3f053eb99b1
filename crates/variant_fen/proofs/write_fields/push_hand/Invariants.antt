use Rattle.std.proofs.Common.{◌≡◌, ◌++◌}
use Rattle.variant_fen.proofs.PushLemmas.{hand_letters}
use Rattle.variant_fen.proofs.write_fields.push_hand.Given as goal

abbrev pub invariant-loop-kind : goal.invariant-loop-kind
invariant-loop-kind l = l.text.items ≡ l.initial.text.items ++ hand_letters l.hands l.side l.kind
