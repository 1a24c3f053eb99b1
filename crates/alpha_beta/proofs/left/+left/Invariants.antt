use Rattle.alpha_beta.proofs.left.+left.Given as goal

abbrev pub decreases-left : goal.decreases-left
decreases-left g l = l.depth
