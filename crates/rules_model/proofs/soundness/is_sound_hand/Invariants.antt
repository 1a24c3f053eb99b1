use Rattle.std.proofs.Common.{◌≡◌}
use Rattle.foundation.specs.Count.{all_below}
use Rattle.rules_model.specs.Sound.{sound_in_hand}
use Rattle.rules_model.proofs.soundness.is_sound_hand.Given as goal

abbrev pub invariant-loop-kind : goal.invariant-loop-kind
invariant-loop-kind l = l.sound ≡ all_below (sound_in_hand l.rules l.hands l.side) l.kind
