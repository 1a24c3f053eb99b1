use Rattle.std.proofs.Common.{◌≡◌, false}
use Rattle.foundation.specs.Count.{any_below}
use Rattle.betza_text.specs.Steps.{is_bad_pair}
use Rattle.betza_text.proofs.steps.are_pairs.Given as goal

abbrev pub invariant-loop-k : goal.invariant-loop-k
invariant-loop-k l = any_below (is_bad_pair l.shape l.letters) l.k ≡ false
