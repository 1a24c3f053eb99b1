use Rattle.std.proofs.Common.{◌≡◌, false}
use Rattle.foundation.specs.Count.{any_below}
use Rattle.betza_text.specs.Steps.{is_pair_to}
use Rattle.betza_text.proofs.steps.has_pair_to.Given as goal

abbrev pub invariant-loop-k : goal.invariant-loop-k
invariant-loop-k l = any_below (is_pair_to l.shape l.letters l.step) l.k ≡ false
