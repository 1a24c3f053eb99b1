use Rattle.std.proofs.Common.{◌≡◌, drop}
use Rattle.stipulation.specs.Trees.{moves_at}
use Rattle.foundation.specs.Tests.{is_nil}
use Rattle.stipulation.proofs.tree.has_none.Given as goal

abbrev pub invariant-loop-s : goal.invariant-loop-s
invariant-loop-s l = is_nil (moves_at l.ply (drop l.s-index l.steps)) ≡ is_nil (moves_at l.ply l.steps)
