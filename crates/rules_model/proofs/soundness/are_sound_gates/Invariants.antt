use Rattle.std.proofs.Common.{◌≡◌}
use Rattle.foundation.specs.Count.{all_below}
use Rattle.rules_model.specs.Repeats.{repeat_of}
use Rattle.rules_model.specs.Sound.{sound_gate}
use Rattle.rules_model.proofs.soundness.are_sound_gates.Given as goal

abbrev pub invariant-loop-file : goal.invariant-loop-file
invariant-loop-file l = l.sound ≡ all_below (sound_gate l.rules (repeat_of l.p) l.side) l.file
