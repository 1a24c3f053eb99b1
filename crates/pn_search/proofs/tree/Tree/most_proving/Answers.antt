use Rattle.std.proofs.Common.{◌≡◌, ◌<◌, ◌-◌, ℕ, length, Some, None, ap, ◌∙◌, subst, sym, arith}
use Rattle.pn_search.specs.Shapes.{AreInPlace}
use Rattle.pn_search.specs.Numbers.{pairs_of}
use Rattle.pn_search.specs.Trees.{Spot, HasGrown, best_child_at, position_of}
use Rattle.pn_search.specs.Ways.{IsAtDepth}
use Rattle.pn_search.proofs.Grown.{down-placed, down-within, down-deeper, down-end, best-read}
use Rattle.pn_search.proofs.KeptLemmas.{nodes-are, pairs-are, pairs-long}
use Rattle.pn_search.proofs.WayLaws.{down-start, down-more}
use Rattle.pn_search.proofs.tree.Tree.most_proving.Goals as goal

less : (n i j : ℕ) → i < j → j < n → n - j < n - i
less n i j h k = omega arith

pub loop-child-init : goal.loop-child-init
loop-child-init c =
    let t = c.args.self.now in
    record {
      way = c.requires.way;
      here = record { within = c.requires.way.some; place_is = c.requires.way.root };
      down = down-start t (subst HasGrown c.self.view_is c.self.invariant.grown);
    }

pub best_child-requires-clause-within : goal.best_child-requires-clause-within
best_child-requires-clause-within c =
    let t = c.args.self.now in
    let nodes : c.as_slice.result.now ≡ t.nodes = c.as_slice.ensures.value ∙ nodes-are _ t c.self.view_is in
    let low = down-within t c.loop-child.place (position_of t c.loop-child.place) c.loop-child.invariant.down in
    let long = ap length nodes in
    omega arith

pub best_child-requires-clause-len : goal.best_child-requires-clause-len
best_child-requires-clause-len c =
    let t = c.args.self.now in
    ap length (c.as_slice-in-loop-child.ensures.value) ∙ pairs-long t.nodes c.self.inside.pairs.items (pairs-are _ t _ c.self.view_is c.self.invariant.pairs)
    ∙ sym (ap length (c.as_slice.ensures.value ∙ nodes-are _ t c.self.view_is))

pub best_child-requires-clause-placed : goal.best_child-requires-clause-placed
best_child-requires-clause-placed c =
    let t = c.args.self.now in
    let nodes : c.as_slice.result.now ≡ t.nodes = c.as_slice.ensures.value ∙ nodes-are _ t c.self.view_is in
    subst AreInPlace (sym nodes) (down-placed t c.loop-child.place (position_of t c.loop-child.place) c.loop-child.invariant.down)

pub step-requires-clause-child : goal.step-requires-clause-child
step-requires-clause-child c =
    let t = c.args.self.now in
    let nodes : c.as_slice.result.now ≡ t.nodes = c.as_slice.ensures.value ∙ nodes-are _ t c.self.view_is in
    let pairs : c.as_slice-in-loop-child.result.now ≡ pairs_of t.nodes = c.as_slice-in-loop-child.ensures.value ∙ pairs-are _ t _ c.self.view_is c.self.invariant.pairs in
    let best = best-read t c.as_slice.result.now c.as_slice-in-loop-child.result.now c.loop-child.place (Some c.in-Some.child) nodes pairs c.in-Some.ensures.child in
    λ d. ap (λ k. best_child_at t.nodes (pairs_of t.nodes) k) (c.loop-child.invariant.here.place_is d) ∙ best

pub loop-child-preserved : goal.loop-child-preserved
loop-child-preserved c =
    let t = c.args.self.now in
    let nodes : c.as_slice.result.now ≡ t.nodes = c.as_slice.ensures.value ∙ nodes-are _ t c.self.view_is in
    let pairs : c.as_slice-in-loop-child.result.now ≡ pairs_of t.nodes = c.as_slice-in-loop-child.ensures.value ∙ pairs-are _ t _ c.self.view_is c.self.invariant.pairs in
    let best = best-read t c.as_slice.result.now c.as_slice-in-loop-child.result.now c.loop-child.place (Some c.in-Some.child) nodes pairs c.in-Some.ensures.child in
    record {
      way = c.step.ensures.way;
      here = c.in_ok-step.ensures.child;
      down = down-more t c.loop-child.place c.in-Some.child c.loop-child.invariant.down best;
    }

pub loop-child-smaller : goal.loop-child-smaller
loop-child-smaller c =
    let t = c.args.self.now in
    let nodes : c.as_slice.result.now ≡ t.nodes = c.as_slice.ensures.value ∙ nodes-are _ t c.self.view_is in
    let pairs : c.as_slice-in-loop-child.result.now ≡ pairs_of t.nodes = c.as_slice-in-loop-child.ensures.value ∙ pairs-are _ t _ c.self.view_is c.self.invariant.pairs in
    let best = best-read t c.as_slice.result.now c.as_slice-in-loop-child.result.now c.loop-child.place (Some c.in-Some.child) nodes pairs c.in-Some.ensures.child in
    let deeper = down-deeper t c.loop-child.place (position_of t c.loop-child.place) c.loop-child.invariant.down c.in-Some.child best in
    let down : c.loop-child.place < c.in-Some.child = deeper.0 in
    let within : c.in-Some.child < length c.args.self.now.nodes = deeper.1 in
    less (length c.args.self.now.nodes) c.loop-child.place c.in-Some.child down within

pub returns-clause-leaf : goal.returns-clause-leaf
returns-clause-leaf c =
    let t = c.args.self.now in
    let nodes : c.as_slice.result.now ≡ t.nodes = c.as_slice.ensures.value ∙ nodes-are _ t c.self.view_is in
    let pairs : c.as_slice-in-loop-child.result.now ≡ pairs_of t.nodes = c.as_slice-in-loop-child.ensures.value ∙ pairs-are _ t _ c.self.view_is c.self.invariant.pairs in
    let best = best-read t c.as_slice.result.now c.as_slice-in-loop-child.result.now c.loop-child.place None nodes pairs c.in_default.ensures.child in
    let leaf = ap (λ (s : Spot). s.place) (down-end t c.loop-child.place (position_of t c.loop-child.place) c.loop-child.invariant.down best) in
    subst (IsAtDepth c.loop-child.way.items c.loop-child.depth) leaf c.loop-child.invariant.here
