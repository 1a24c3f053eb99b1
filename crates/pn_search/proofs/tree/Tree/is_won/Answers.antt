use Rattle.std.proofs.Common.{◌==◌, ap, arith}
use Rattle.pn_search.specs.declared.numbers.Pair.{Pair}
use Rattle.pn_search.proofs.KeptLemmas.{pair-read, pairs-long, pairs-are, some-nodes}
use Rattle.pn_search.proofs.tree.Tree.is_won.Goals as goal

pub index-root-requires : goal.index-root-requires
index-root-requires c =
    let long = pairs-long c.args.self.now.nodes c.self.inside.pairs.items (pairs-are _ c.args.self.now _ c.self.view_is c.self.invariant.pairs) in
    let some = some-nodes _ c.args.self.now c.self.view_is c.self.invariant.grown in
    let own = c.self.inside.pairs.ok in
    omega arith

pub returns : goal.returns
returns c =
    ap (λ (p : Pair). p.proof == 0)
    (pair-read c.args.self.now.nodes c.self.inside.pairs.items 0 c.index-root.result.now (pairs-are _ c.args.self.now _ c.self.view_is c.self.invariant.pairs) (some-nodes _ c.args.self.now c.self.view_is c.self.invariant.grown) c.index-root.ensures)
