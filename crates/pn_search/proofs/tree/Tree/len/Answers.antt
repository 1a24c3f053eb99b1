use Rattle.std.proofs.Common.{length, ap, arith}
use Rattle.pn_search.proofs.KeptLemmas.{some-nodes, nodes-are}
use Rattle.pn_search.proofs.tree.Tree.len.Goals as goal

pub returns-clause-some : goal.returns-clause-some
returns-clause-some c =
    let some = some-nodes _ c.args.self.now c.self.view_is c.self.invariant.grown in
    let ok = c.self.inside.nodes.ok in
    let is = c.len.ensures in
    let same = nodes-are _ c.args.self.now c.self.view_is in
    omega (arith, ap length same)
