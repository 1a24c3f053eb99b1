use Rattle.std.proofs.Common.{◌≡◌, false}
use Rattle.foundation.specs.Count.{any_below}
use Rattle.rules_model.specs.Attacks.{attacks_from}
use Rattle.rules_model.proofs.attacks.is_attacked_by_piece.Given as goal

abbrev pub invariant-loop-from : goal.invariant-loop-from
invariant-loop-from l = any_below (attacks_from l.rules l.cells l.by l.at.0) l.from ≡ false
