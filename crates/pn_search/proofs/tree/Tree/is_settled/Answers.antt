use Rattle.std.proofs.Common.{ap, ◌∙◌, arith}
use Rattle.pn_search.specs.Trees.{is_settled, is_settled_pair}
use Rattle.pn_search.proofs.KeptLemmas.{pair-read, pairs-long, pairs-are, some-nodes}
use Rattle.pn_search.proofs.tree.Tree.is_settled.Goals as goal

pub index-requires : goal.index-requires
index-requires c =
    let long = pairs-long c.args.self.now.nodes c.self.inside.pairs.items (pairs-are _ c.args.self.now _ c.self.view_is c.self.invariant.pairs) in
    let some = some-nodes _ c.args.self.now c.self.view_is c.self.invariant.grown in
    let own = c.self.inside.pairs.ok in
    omega arith

pub returns : goal.returns
unfolding is_settled
returns c =
    let read = pair-read c.args.self.now.nodes c.self.inside.pairs.items 0 c.index.result.now (pairs-are _ c.args.self.now _ c.self.view_is c.self.invariant.pairs) (some-nodes _ c.args.self.now c.self.view_is c.self.invariant.grown) c.index.ensures in
    c.is_settled_pair.ensures ∙ ap is_settled_pair read
