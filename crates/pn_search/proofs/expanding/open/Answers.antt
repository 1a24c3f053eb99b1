use Rattle.std.proofs.Common.{◌≡◌, ◌++◌, map, length, ap, ◌∙◌, arith}
use Rattle.legality.specs.Stance.{legal_in}
use Rattle.pn_search.specs.Kept.{written_child}
use Rattle.pn_search.proofs.Expanded.{opened-is}
use Rattle.pn_search.proofs.expanding.open.Goals as goal

pub returns-clause-nodes : goal.returns-clause-nodes
returns-clause-nodes c =
    let old = c.args.nodes.now.items in
    let place = c.args.leaf.now.place in
    let listed = c.in_ok-moves.ensures ∙ ap legal_in c.requires.known in
    let moves = c.as_slice.ensures.value ∙ listed in
    let count : c.len-count.result ≡ length (legal_in c.args.leaf.now.board) = (let a = c.len-count.ensures in let b = ap length listed in let ok = c.in_ok-moves.moves.ok in omega arith) in
    let first : c.len-first.result ≡ length old = (let a = c.len-first.ensures in let ok = c.args.nodes.now.ok in omega arith) in
    λ v h. opened-is old c.push_children.new.nodes.items place v c.index-node.result.now c.index_mut.result.now (legal_in c.args.leaf.now.board) c.len-first.result c.len-count.result
    h c.index-node.ensures
    (c.in_ok-push_children.ensures.nodes ∙ ap (λ ms. old ++ map (written_child place c.index-node.result.now) ms) moves)
    c.index_mut.ensures.value first count
