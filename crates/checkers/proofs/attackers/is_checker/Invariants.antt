use Rattle.std.proofs.Common.{◌≡◌, false}
use Rattle.foundation.specs.Count.{any_below}
use Rattle.checkers.specs.Checkers.{attacks_king_on}
use Rattle.checkers.proofs.attackers.is_checker.Given as goal

abbrev pub invariant-loop-to : goal.invariant-loop-to
invariant-loop-to l = any_below (attacks_king_on l.rules l.cells l.side l.from) l.to ≡ false
