use Rattle.std.proofs.Common.{◌≡◌}
use Rattle.foundation.specs.Count.{all_below}
use Rattle.rules_model.specs.Sound.{sound_at}
use Rattle.rules_model.proofs.soundness.are_sound_cells.Given as goal

abbrev pub invariant-loop-at : goal.invariant-loop-at
invariant-loop-at l = l.sound ≡ all_below (sound_at l.rules l.cells) l.at
