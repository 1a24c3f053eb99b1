use Rattle.std.proofs.Common.{◌≡◌, drop}
use Rattle.std.specs.List.{list_any}
use Rattle.rules_model.specs.Moves.{same_move}
use Rattle.stipulation.specs.Trees.{moves_at}
use Rattle.stipulation.proofs.tree.has_move.Given as goal

abbrev pub invariant-loop-s : goal.invariant-loop-s
invariant-loop-s l = list_any (same_move l.m) (moves_at l.ply (drop l.s-index l.steps)) ≡ list_any (same_move l.m) (moves_at l.ply l.steps)
