use Rattle.std.proofs.Common.{◌≡◌, false}
use Rattle.foundation.specs.Count.{any_below}
use Rattle.rules_model.specs.Attacks.{stands_between}
use Rattle.checkers.proofs.attackers.is_open_between.Given as goal

abbrev pub invariant-loop-at : goal.invariant-loop-at
invariant-loop-at l = any_below (stands_between l.cells l.a.0 l.b.0) l.at ≡ false
