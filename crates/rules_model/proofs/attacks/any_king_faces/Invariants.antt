use Rattle.std.proofs.Common.{◌≡◌, false}
use Rattle.foundation.specs.Count.{any_below}
use Rattle.rules_model.specs.Attacks.{king_faces}
use Rattle.rules_model.proofs.attacks.any_king_faces.Given as goal

abbrev pub invariant-loop-from : goal.invariant-loop-from
invariant-loop-from l = any_below (king_faces l.rules l.cells l.by l.to.0) l.from ≡ false
