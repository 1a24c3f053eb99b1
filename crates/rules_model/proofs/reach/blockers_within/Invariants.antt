use Rattle.std.proofs.Common.{◌≡◌, ◌≤◌}
use Rattle.rules_model.specs.Reach.{blockers}
use Rattle.rules_model.proofs.reach.blockers_within.Given as goal

abbrev pub invariant-loop-i : goal.invariant-loop-i
invariant-loop-i l = record {
  found : l.found ≡ blockers l.cells l.ray l.i;
  few : l.found ≤ l.i;
}
