use Rattle.std.proofs.Common.{◌≡◌, false}
use Rattle.foundation.specs.Count.{any_below}
use Rattle.rules_model.specs.Castling.{in_the_way}
use Rattle.special_moves.proofs.way.is_clear.Given as goal

abbrev pub invariant-loop-at : goal.invariant-loop-at
invariant-loop-at l = any_below (in_the_way l.cells l.castle) l.at ≡ false
