use Rattle.std.proofs.Common.{take}
use Rattle.alpha_beta.specs.Roots.{AreDistinct}
use Rattle.alpha_beta.proofs.roots.distinct.Given as goal

abbrev pub invariant-loop-m : goal.invariant-loop-m
invariant-loop-m l = AreDistinct (take l.m-index l.roots) l.moves.items
