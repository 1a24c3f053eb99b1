use Rattle.std.proofs.Common.{◌≡◌, drop}
use Rattle.stipulation.specs.Trees.{moves_at}
use Rattle.stipulation.specs.Verdicts.{first_missing}
use Rattle.stipulation.proofs.tree.first_missing.Given as goal

abbrev pub invariant-loop-m : goal.invariant-loop-m
invariant-loop-m l = first_missing (moves_at l.ply l.steps) (drop l.m-index l.moves) ≡ first_missing (moves_at l.ply l.steps) l.moves
