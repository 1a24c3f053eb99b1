use Rattle.std.proofs.Common.{◌≡◌, suc, ◌+◌, ◌<◌, Some, false, length, ap, sym, ◌∙◌, subst, arith}
use Rattle.std.proofs.lemmas.List.{with_items_is}
use Rattle.pn_search.specs.Kept.{IsExpandable, work_left}
use Rattle.pn_search.specs.Numbers.{pairs_of}
use Rattle.pn_search.specs.Shapes.{AreInPlace}
use Rattle.pn_search.specs.Trees.{ProofTree, Spot, IsPn, most_proving, nodes_after, is_settled, grown, pn}
use Rattle.pn_search.specs.Ways.{IsWay}
use Rattle.pn_search.proofs.Grown.{IsRooted}
use Rattle.pn_search.proofs.KeptLemmas.{kept-rooted, leaf-expandable, kept-placed, after-in-place, kept-grown, grows-one, pn-more}
use Rattle.pn_search.proofs.Progress.{less-left}
use Rattle.pn_search.proofs.WayLaws.{leaf-read, proving-read, way-grown}
use Rattle.pn_search.proofs.tree.Tree.grow_on.Goals as goal

pub expand-requires-clause-leaf : goal.expand-requires-clause-leaf
expand-requires-clause-leaf c =
    let t : ProofTree = record { frame = c.self.inside.frame; root = c.self.inside.root; moves = c.self.inside.moves; nodes = c.self.inside.nodes.items } in
    let r = subst IsRooted c.self.view_is (kept-rooted _ c.self.inside.pairs.items c.self.invariant) in
    let spot = proving-read t c.args.self.now c.most_proving.new.way.items c.in_ok-depth.depth c.index-leaf.result.now c.self.view_is r c.most_proving.ensures.way c.in_ok-depth.ensures.leaf c.index-leaf.ensures in
    subst (λ (s : Spot). IsExpandable t.frame t.nodes s.place s.position) (sym spot) (leaf-expandable t c.self.inside.pairs.items c.self.invariant)

pub expand-requires-clause-placed : goal.expand-requires-clause-placed
expand-requires-clause-placed c = kept-placed _ c.self.inside.pairs.items c.self.invariant

pub carry-requires-clause-within : goal.carry-requires-clause-within
carry-requires-clause-within c =
    let t : ProofTree = record { frame = c.self.inside.frame; root = c.self.inside.root; moves = c.self.inside.moves; nodes = c.self.inside.nodes.items } in
    let r = subst IsRooted c.self.view_is (kept-rooted _ c.self.inside.pairs.items c.self.invariant) in
    let spot = proving-read t c.args.self.now c.most_proving.new.way.items c.in_ok-depth.depth c.index-leaf.result.now c.self.view_is r c.most_proving.ensures.way c.in_ok-depth.ensures.leaf c.index-leaf.ensures in
    let leaf = subst (λ (s : Spot). IsExpandable t.frame t.nodes s.place s.position) (sym spot) (leaf-expandable t c.self.inside.pairs.items c.self.invariant) in
    let low = leaf.within in
    let longer = c.in_ok-expand.ensures.longer in
    let same = ap length c.as_slice.ensures.value in
    omega arith

pub carry-requires-clause-placed : goal.carry-requires-clause-placed
carry-requires-clause-placed c =
    let t : ProofTree = record { frame = c.self.inside.frame; root = c.self.inside.root; moves = c.self.inside.moves; nodes = c.self.inside.nodes.items } in
    let r = subst IsRooted c.self.view_is (kept-rooted _ c.self.inside.pairs.items c.self.invariant) in
    let spot = proving-read t c.args.self.now c.most_proving.new.way.items c.in_ok-depth.depth c.index-leaf.result.now c.self.view_is r c.most_proving.ensures.way c.in_ok-depth.ensures.leaf c.index-leaf.ensures in
    let after = c.in_ok-expand.ensures.nodes ∙ ap (nodes_after t.frame t.nodes) spot in
    subst AreInPlace (sym c.as_slice.ensures.value) (after-in-place t c.self.inside.pairs.items c.expand.new.nodes.items c.self.invariant after)

pub invariant_of-self-2 : goal.invariant_of-self-2
invariant_of-self-2 c =
    let t : ProofTree = record { frame = c.self.inside.frame; root = c.self.inside.root; moves = c.self.inside.moves; nodes = c.self.inside.nodes.items } in
    let r = subst IsRooted c.self.view_is (kept-rooted _ c.self.inside.pairs.items c.self.invariant) in
    let spot = proving-read t c.args.self.now c.most_proving.new.way.items c.in_ok-depth.depth c.index-leaf.result.now c.self.view_is r c.most_proving.ensures.way c.in_ok-depth.ensures.leaf c.index-leaf.ensures in
    let after = c.in_ok-expand.ensures.nodes ∙ ap (nodes_after t.frame t.nodes) spot in
    let open_root : is_settled t ≡ false = ap is_settled c.self.view_is ∙ sym c.is_settled.ensures ∙ c.if-is_settled.false in
    let long = c.carry.auto.pairs in
    let given = c.as_mut_slice.ensures.len in
    let same = with_items_is c.expand.new.pairs c.carry.new.pairs (omega arith) in
    let are = same ∙ c.carry.ensures ∙ ap pairs_of c.as_slice.ensures.value in
    kept-grown t c.self.inside.pairs.items c.expand.new.nodes.items _ c.self.invariant open_root after c.in_ok-expand.ensures.few are

pub returns-clause-grows : goal.returns-clause-grows
returns-clause-grows c =
    let t : ProofTree = record { frame = c.self.inside.frame; root = c.self.inside.root; moves = c.self.inside.moves; nodes = c.self.inside.nodes.items } in
    let r = subst IsRooted c.self.view_is (kept-rooted _ c.self.inside.pairs.items c.self.invariant) in
    let spot = proving-read t c.args.self.now c.most_proving.new.way.items c.in_ok-depth.depth c.index-leaf.result.now c.self.view_is r c.most_proving.ensures.way c.in_ok-depth.ensures.leaf c.index-leaf.ensures in
    let after = c.in_ok-expand.ensures.nodes ∙ ap (nodes_after t.frame t.nodes) spot in
    let open_root : is_settled t ≡ false = ap is_settled c.self.view_is ∙ sym c.is_settled.ensures ∙ c.if-is_settled.false in
    (ap (λ (s : Spot). s.place) (spot ∙ ap most_proving c.self.view_is), ap grown (sym c.self.view_is) ∙ grows-one t c.expand.new.nodes.items open_root after)

pub returns-clause-tree : goal.returns-clause-tree
returns-clause-tree c =
    let t : ProofTree = record { frame = c.self.inside.frame; root = c.self.inside.root; moves = c.self.inside.moves; nodes = c.self.inside.nodes.items } in
    let r = subst IsRooted c.self.view_is (kept-rooted _ c.self.inside.pairs.items c.self.invariant) in
    let spot = proving-read t c.args.self.now c.most_proving.new.way.items c.in_ok-depth.depth c.index-leaf.result.now c.self.view_is r c.most_proving.ensures.way c.in_ok-depth.ensures.leaf c.index-leaf.ensures in
    let after = c.in_ok-expand.ensures.nodes ∙ ap (nodes_after t.frame t.nodes) spot in
    let open_root : is_settled t ≡ false = ap is_settled c.self.view_is ∙ sym c.is_settled.ensures ∙ c.if-is_settled.false in
    λ k is.
    let one : suc k ≡ k + 1 = omega arith in
    subst (λ n. pn t.frame t.root t.moves n ≡ Some (record t { nodes = c.expand.new.nodes.items })) one
    (pn-more k t c.expand.new.nodes.items (subst (IsPn k) (sym c.self.view_is) is) open_root after)

pub returns-clause-less : goal.returns-clause-less
returns-clause-less c =
    let t : ProofTree = record { frame = c.self.inside.frame; root = c.self.inside.root; moves = c.self.inside.moves; nodes = c.self.inside.nodes.items } in
    let r = subst IsRooted c.self.view_is (kept-rooted _ c.self.inside.pairs.items c.self.invariant) in
    let spot = proving-read t c.args.self.now c.most_proving.new.way.items c.in_ok-depth.depth c.index-leaf.result.now c.self.view_is r c.most_proving.ensures.way c.in_ok-depth.ensures.leaf c.index-leaf.ensures in
    let after = c.in_ok-expand.ensures.nodes ∙ ap (nodes_after t.frame t.nodes) spot in
    let open_root : is_settled t ≡ false = ap is_settled c.self.view_is ∙ sym c.is_settled.ensures ∙ c.if-is_settled.false in
    subst (λ (u : ProofTree). work_left (record t { nodes = c.expand.new.nodes.items }) < work_left u) c.self.view_is
    (less-left t c.expand.new.nodes.items c.in_ok-expand.ensures.few (kept-rooted t c.self.inside.pairs.items c.self.invariant) open_root after)

pub returns-clause-way : goal.returns-clause-way
returns-clause-way c =
    let t : ProofTree = record { frame = c.self.inside.frame; root = c.self.inside.root; moves = c.self.inside.moves; nodes = c.self.inside.nodes.items } in
    let r = subst IsRooted c.self.view_is (kept-rooted _ c.self.inside.pairs.items c.self.invariant) in
    let spot = proving-read t c.args.self.now c.most_proving.new.way.items c.in_ok-depth.depth c.index-leaf.result.now c.self.view_is r c.most_proving.ensures.way c.in_ok-depth.ensures.leaf c.index-leaf.ensures in
    let after = c.in_ok-expand.ensures.nodes ∙ ap (nodes_after t.frame t.nodes) spot in
    way-grown t c.expand.new.nodes.items c.most_proving.new.way.items (kept-rooted t c.self.inside.pairs.items c.self.invariant) after
    (subst (λ (u : ProofTree). IsWay u c.most_proving.new.way.items) (sym c.self.view_is) c.most_proving.ensures.way)

pub expand-requires-clause-rules : goal.expand-requires-clause-rules
expand-requires-clause-rules c =
    let leaf = leaf-read c.args.self.now c.most_proving.new.way.items c.in_ok-depth.depth c.index-leaf.result.now c.most_proving.ensures.way c.in_ok-depth.ensures.leaf.within c.index-leaf.ensures in
    leaf.rules ∙ ap (λ (u : ProofTree). u.frame.rules) (sym c.self.view_is)
