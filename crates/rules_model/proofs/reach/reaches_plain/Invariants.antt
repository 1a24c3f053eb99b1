use Rattle.std.proofs.Common.{◌≡◌, ◌≤◌, false}
use Rattle.foundation.specs.Count.{any_below}
use Rattle.rules_model.specs.Reach.{blockers, reaches_over}
use Rattle.rules_model.proofs.reach.reaches_plain.Given as goal

abbrev pub invariant-loop-between : goal.invariant-loop-between
invariant-loop-between l = record {
  found : l.found ≡ blockers l.cells l.ray l.between;
  none : any_below (reaches_over l.cells l.term.way l.ray l.to.0) l.between ≡ false;
  few : l.found ≤ l.between;
}
