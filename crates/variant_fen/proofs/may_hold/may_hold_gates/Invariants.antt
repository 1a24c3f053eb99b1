use Rattle.std.proofs.Common.{◌≡◌}
use Rattle.foundation.specs.Count.{all_below}
use Rattle.rules_model.specs.Sound.{sound_gate}
use Rattle.fen_model.specs.Held.{held_on}
use Rattle.variant_fen.proofs.may_hold.may_hold_gates.Given as goal

abbrev pub invariant-loop-file : goal.invariant-loop-file
invariant-loop-file l = l.sound ≡ all_below (sound_gate l.rules (held_on l.cells l.held) l.side) l.file
