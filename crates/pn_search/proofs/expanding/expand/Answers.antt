use Rattle.std.proofs.Common.{◌≡◌, ◌<◌, ◌++◌, map, length, set, slice_get, ap, sym, ◌∙◌, subst, arith}
use Rattle.std.proofs.lemmas.List.{length-set}
use Rattle.rules_model.specs.declared.rules.Rules.{Rules}
use Rattle.rules_model.specs.Legal.{legal}
use Rattle.rules_model.specs.Repeats.{repeat_of}
use Rattle.legality.specs.Stance.{legal_in}
use Rattle.pn_search.specs.declared.node.Node.{Node}
use Rattle.pn_search.specs.declared.node.State.TheVariants.{Inner}
use Rattle.pn_search.specs.Kept.{written_child}
use Rattle.pn_search.specs.Shapes.{IsNumbered}
use Rattle.pn_search.specs.Trees.{state_by}
use Rattle.pn_search.proofs.Expanded.{stands-read, closed-is, after-opened, some_left, closed-others, opened-others, length-opened, length-paired}
use Rattle.pn_search.proofs.KeptLemmas.{pairs-long}
use Rattle.pn_search.proofs.Lists.{some_same}
use Rattle.pn_search.proofs.expanding.expand.Goals as goal

pub returns-in-Some-clause-nodes : goal.returns-in-Some-clause-nodes
returns-in-Some-clause-nodes c =
    let nodes = c.args.nodes.now.items in
    let place = c.args.leaf.now.place in
    closed-is c.args.frame.now nodes place c.args.leaf.now.board.position c.index.result.now c.index_mut.result.now c.end_at.result c.in-Some.state
    (stands-read nodes place c.index.result.now c.requires.leaf.within c.index.ensures)
    c.index_mut.ensures.value c.end_at.ensures c.in-Some.ensures

pub returns-in-Some-clause-len : goal.returns-in-Some-clause-len
returns-in-Some-clause-len c = pairs-long c.args.nodes.now.items c.args.pairs.now.items c.requires.pairs ∙ sym (length-set c.args.nodes.now.items c.args.leaf.now.place _)

pub returns-in-Some-clause-others : goal.returns-in-Some-clause-others
returns-in-Some-clause-others c = closed-others c.args.nodes.now.items c.requires.placed c.args.pairs.now.items c.requires.pairs c.args.leaf.now.place (record c.index_mut.result.now { state = c.in-Some.state })

pub open-requires-clause-len : goal.open-requires-clause-len
open-requires-clause-len c = pairs-long c.args.nodes.now.items c.args.pairs.now.items c.requires.pairs

pub open-requires-clause-more : goal.open-requires-clause-more
open-requires-clause-more c =
    let nodes = c.args.nodes.now.items in
    let place = c.args.leaf.now.place in
    let x = c.index.result.now in
    let stands = stands-read nodes place x c.requires.leaf.within c.index.ensures in
    λ v h e.
    let same : x ≡ v = some_same (slice_get nodes place) x v stands h in
    let turn : x.attacking ≡ v.attacking = ap (λ (y : Node). y.attacking) same in
    subst (λ (y : Node). 0 < y.left) same (some_left c.end_at.result x.attacking x.left (sym c.in_default.ensures) (turn ∙ e))

pub returns-clause-nodes : goal.returns-clause-nodes
returns-clause-nodes c =
    let nodes = c.args.nodes.now.items in
    let place = c.args.leaf.now.place in
    let p = c.args.leaf.now.board.position in
    let x = c.index.result.now in
    let stands = stands-read nodes place x c.requires.leaf.within c.index.ensures in
    let moves : legal_in c.args.leaf.now.board ≡ legal c.args.frame.now.rules (repeat_of p) = ap (λ (r : Rules). legal r (repeat_of p)) c.requires.rules in
    c.in_ok-open.ensures.nodes x stands
    ∙ after-opened c.args.frame.now nodes place p x stands (legal_in c.args.leaf.now.board) (c.requires.leaf.turn x stands) moves
    (ap (λ o. state_by o x.attacking x.left) (sym c.end_at.ensures) ∙ sym c.in_default.ensures)

pub returns-clause-len : goal.returns-clause-len
returns-clause-len c =
    let nodes = c.args.nodes.now.items in
    let place = c.args.leaf.now.place in
    let x = c.index.result.now in
    let stands = stands-read nodes place x c.requires.leaf.within c.index.ensures in
    let ms = legal_in c.args.leaf.now.board in
    let a = ap length (c.in_ok-open.ensures.nodes x stands) ∙ length-opened nodes place (record x { state = Inner (length nodes) (length ms) }) x ms in
    let b = ap length c.in_ok-open.ensures.pairs ∙ length-paired c.args.pairs.now.items (length ms) in
    let l = pairs-long nodes c.args.pairs.now.items c.requires.pairs in
    omega arith

pub returns-clause-longer : goal.returns-clause-longer
returns-clause-longer c =
    let nodes = c.args.nodes.now.items in
    let place = c.args.leaf.now.place in
    let x = c.index.result.now in
    let stands = stands-read nodes place x c.requires.leaf.within c.index.ensures in
    let ms = legal_in c.args.leaf.now.board in
    let a = ap length (c.in_ok-open.ensures.nodes x stands) ∙ length-opened nodes place (record x { state = Inner (length nodes) (length ms) }) x ms in
    omega arith

pub returns-clause-others : goal.returns-clause-others
returns-clause-others c =
    let nodes = c.args.nodes.now.items in
    let ps = c.args.pairs.now.items in
    let place = c.args.leaf.now.place in
    let x = c.index.result.now in
    let stands = stands-read nodes place x c.requires.leaf.within c.index.ensures in
    let ms = legal_in c.args.leaf.now.board in
    λ i other.
    subst (λ ns. IsNumbered ns c.open.new.pairs.items i) (sym (c.in_ok-open.ensures.nodes x stands))
    (subst (λ qs. IsNumbered (set nodes place (record x { state = Inner (length nodes) (length ms) }) ++ map (written_child place x) ms) qs i) (sym c.in_ok-open.ensures.pairs)
    (opened-others nodes c.requires.placed ps c.requires.pairs place (record x { state = Inner (length nodes) (length ms) }) x ms i other))
