use Rattle.std.proofs.Common.{◌≡◌, ◌≤◌, take}
use Rattle.std.specs.Prelude.{count_by}
use Rattle.rules_model.specs.Ends.{is_of}
use Rattle.end_rules.proofs.extinction.stand_more.Given as goal

abbrev pub invariant-loop-at : goal.invariant-loop-at
invariant-loop-at l = record {
  found : l.found ≡ count_by (is_of l.side) (take l.at l.cells);
  few : l.found ≤ l.most;
}
