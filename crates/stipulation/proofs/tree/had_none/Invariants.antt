use Rattle.std.proofs.Common.{◌≡◌, ◌≤◌, length, take, reverse}
use Rattle.foundation.specs.Tests.{is_nil}
use Rattle.stipulation.specs.Trees.{moves_at}
use Rattle.stipulation.proofs.tree.had_none.Given as goal

abbrev pub invariant-loop-left : goal.invariant-loop-left
invariant-loop-left l = record {
  within : l.left ≤ length l.earlier;
  same : is_nil (moves_at l.ply (reverse (take l.left l.earlier))) ≡ is_nil (moves_at l.ply (reverse l.earlier));
}

abbrev pub decreases-loop-left : goal.decreases-loop-left
decreases-loop-left l = l.left
