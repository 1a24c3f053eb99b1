use Rattle.std.proofs.Common.{◌≡◌}
use Rattle.strategy_check.specs.Buckets.{AreFilled}
use Rattle.strategy_check.proofs.places.Places.new.Given as goal

abbrev pub invariant-loop-i : goal.invariant-loop-i
invariant-loop-i l = record {
  key : l.places.by ≡ l.fn.by;
  filled : AreFilled l.fn.by l.nodes l.i l.places.buckets.items;
}
