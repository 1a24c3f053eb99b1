use Rattle.std.proofs.Common.{◌≡◌, false}
use Rattle.foundation.specs.Count.{any_below}
use Rattle.rules_model.specs.Attacks.{king_attacked_at}
use Rattle.rules_model.proofs.attacks.king_attacked.Given as goal

abbrev pub invariant-loop-at : goal.invariant-loop-at
invariant-loop-at l = any_below (king_attacked_at l.rules l.cells l.side) l.at ≡ false
