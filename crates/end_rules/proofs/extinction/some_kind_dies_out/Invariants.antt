use Rattle.std.proofs.Common.{◌≡◌, false}
use Rattle.foundation.specs.Count.{any_below}
use Rattle.rules_model.specs.Ends.{kind_dies_out}
use Rattle.rules_model.specs.Repeats.{repeat_of}
use Rattle.end_rules.proofs.extinction.some_kind_dies_out.Given as goal

abbrev pub invariant-loop-kind : goal.invariant-loop-kind
invariant-loop-kind l = any_below (kind_dies_out l.rules (repeat_of l.p) l.side) l.kind ≡ false
