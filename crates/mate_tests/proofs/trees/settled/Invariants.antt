use Rattle.std.proofs.Common.{◌≡◌}
use Rattle.mate_tests.proofs.trees.settled.Given as goal

abbrev pub invariant-growing : goal.invariant-growing
invariant-growing g l = l.tree.frame ≡ l.fn.frame
