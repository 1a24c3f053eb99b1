use Rattle.std.proofs.Common.{subst}
use Rattle.pn_search.specs.Meaning.{PairDecides}
use Rattle.pn_search.specs.Trees.{HasGrown}
use Rattle.pn_search.proofs.Meaning.{pair_decides}
use Rattle.pn_search.proofs.tree.Tree.prove_grown.Goals as goal

pub returns-clause-grown : goal.returns-clause-grown
returns-clause-grown c = subst HasGrown c.self.view_is c.self.invariant.grown

pub returns-clause-decides : goal.returns-clause-decides
returns-clause-decides c =
    subst PairDecides c.self.view_is
    (pair_decides c.self.invariant.grown.expansions _ c.self.invariant.grown.is c.self.invariant.ongoing)
