use Rattle.std.proofs.Common.{◌≡◌, ◌≤◌, length, take, reverse}
use Rattle.std.specs.List.{list_any}
use Rattle.rules_model.specs.Moves.{same_move}
use Rattle.stipulation.specs.Trees.{moves_at}
use Rattle.stipulation.proofs.tree.had_move.Given as goal

abbrev pub invariant-loop-left : goal.invariant-loop-left
invariant-loop-left l = record {
  within : l.left ≤ length l.earlier;
  same : list_any (same_move l.m) (moves_at l.ply (reverse (take l.left l.earlier))) ≡ list_any (same_move l.m) (moves_at l.ply (reverse l.earlier));
}

abbrev pub decreases-loop-left : goal.decreases-loop-left
decreases-loop-left l = l.left
