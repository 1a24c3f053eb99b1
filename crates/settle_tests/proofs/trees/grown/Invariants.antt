use Rattle.std.proofs.Common.{◌≡◌}
use Rattle.settle_tests.proofs.trees.grown.Given as goal

abbrev pub invariant-growing : goal.invariant-growing
invariant-growing g l = l.facts ≡ l.fn.frame
