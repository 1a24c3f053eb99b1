use Rattle.std.proofs.Common.{◌≡◌, false}
use Rattle.foundation.specs.Count.{any_below}
use Rattle.rules_model.specs.Ends.{flag_at}
use Rattle.end_rules.proofs.flag.finds_flag.Given as goal

abbrev pub invariant-loop-at : goal.invariant-loop-at
invariant-loop-at l = any_below (flag_at l.rules l.cells l.side) l.at ≡ false
