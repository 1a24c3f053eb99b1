-- Ways down a tree, and how they stay ways of a tree that grows.
use Rattle.std.proofs.Common.{◌≡◌, ◌⊎◌, inl, inr, ℕ, zero, suc, ◌<◌, ◌≤◌, ◌==◌, List, [], ◌∷◌, ◌++◌, take, length, get_or, set, true, Option, Some, None, slice_get, cond, refl, ap, sym, ◌∙◌, subst, arith}
use Rattle.std.proofs.Math.Seq.{get_or-append_seam}
use Rattle.std.proofs.lemmas.Bool.{cases_lt, cases_eq}
use Rattle.std.proofs.lemmas.List.{length-take, length-set, length-append, get_or-take, get_or_append_left}
use Rattle.std.proofs.lemmas.List.Elements.{All-nil, All-push}
use Rattle.std.proofs.lemmas.Option.{slice_get_within}
use Rattle.foundation.proofs.SetLemmas.{slice_get-set_same, slice_get-set_other}
use Rattle.rules_model.specs.declared.board.Position.{Position}
use Rattle.rules_model.specs.declared.rules.Rules.{Rules}
use Rattle.mate_core.specs.declared.frame.Frame.{Frame}
use Rattle.forced_wins.proofs.Counts.{eq_to}
use Rattle.pn_search.specs.declared.descending.Leaf.{Leaf}
use Rattle.pn_search.specs.declared.node.Node.{Node}
use Rattle.pn_search.specs.declared.node.State.{State}
use Rattle.pn_search.specs.declared.node.State.TheVariants.{Inner}
use Rattle.pn_search.specs.Finds.{IsAt}
use Rattle.pn_search.specs.Numbers.{pairs_of}
use Rattle.pn_search.specs.Shapes.{AreInPlace}
use Rattle.pn_search.specs.Trees.{ProofTree, HasGrown, Spot, spot_at, most_proving, nodes_after, expanded_at, expanded_with, children_of, state_by, end_at, best_child_at, chosen_at, position_after, position_by, position_step, position_of}
use Rattle.pn_search.specs.Ways.{IsLeafOf, IsWay, IsAtDepth}
use Rattle.pn_search.proofs.Descent.{IsOn, IsBelow, child_on}
use Rattle.pn_search.proofs.Grown.{IsRooted, GoesDown, down-root, down-below, down-child, most_proving-on, position-is}
use Rattle.pn_search.proofs.KeptLemmas.{same-spot}
use Rattle.pn_search.proofs.Lists.{get-left, there_is, some_same}
use Rattle.pn_search.proofs.Sought.{at-root}
use Rattle.pn_search.proofs.Standing.{in_place}

-- ---- a node and its best child

leaf-on : (t : ProofTree) (r : IsRooted t) (l : Leaf) → IsLeafOf t l → IsOn t.frame t.root t.moves t.nodes r (spot_at l.place l.board.position)
leaf-on t r l is = record { within = is.at.within; there = sym (is.at.position ∙ position-is t r l.place is.at.within) }

pub below : (t : ProofTree) (r : IsRooted t) (l : Leaf) → IsLeafOf t l → (i : ℕ) → best_child_at t.nodes (pairs_of t.nodes) l.place ≡ Some i → IsBelow t.frame t.root t.moves t.nodes r (spot_at l.place l.board.position) i
below t r l is i e = child_on t.frame t.root t.moves t.nodes r (pairs_of t.nodes) (spot_at l.place l.board.position) (leaf-on t r l is) i e

pub child-leaf : (t : ProofTree) (r : IsRooted t) (l m : Leaf) (i : ℕ) → IsLeafOf t l → best_child_at t.nodes (pairs_of t.nodes) l.place ≡ Some i → m.place ≡ i → m.board.rules ≡ t.frame.rules → m.board.position ≡ position_after t.frame.rules l.board.position (chosen_at t.nodes i) → IsLeafOf t m
child-leaf t r l m i is e place rules position =
    let b = below t r l is i e in
    record {
      rules = rules;
      at = record {
        within = subst (λ k. k < length t.nodes) (sym place) b.on.within;
        position = position ∙ sym b.on.there ∙ sym (position-is t r i b.on.within) ∙ ap (position_of t) (sym place);
      };
    }

-- ---- ways

pub way-root : (t : ProofTree) (x : Leaf) → HasGrown t → x.place ≡ 0 → x.board.rules ≡ t.frame.rules → x.board.position ≡ t.root → IsWay t (x ∷ [])
way-root t x g place rules position = record {
  some = omega arith;
  root = λ d. place;
  each = All-push (IsLeafOf t) [] x (All-nil (IsLeafOf t)) (record { rules = rules; at = subst (λ k. IsAt t k x.board.position) (sym place) (at-root t x.board.position g position) });
}

pub way-front : (t : ProofTree) (ls : List Leaf) (n : ℕ) → 0 < n → n ≤ length ls → IsWay t ls → IsWay t (take n ls)
way-front t ls n some low w = record {
  some = let e = length-take n ls in omega arith;
  root = λ d. ap (λ (l : Leaf). l.place) (get_or-take n ls 0 d some) ∙ w.root d;
  each = λ k d h.
      let e = length-take n ls in
      let below_n : k < n = omega arith in
      subst (IsLeafOf t) (sym (get_or-take n ls k d below_n)) (w.each k d (omega arith));
}

pub way-push : (t : ProofTree) (ls : List Leaf) (x : Leaf) → IsWay t ls → IsLeafOf t x → IsWay t (ls ++ x ∷ [])
way-push t ls x w is = record {
  some = let e = length-append ls (x ∷ []) in let s = w.some in omega arith;
  root = λ d. ap (λ (l : Leaf). l.place) (get_or_append_left ls (x ∷ []) d 0 w.some) ∙ w.root d;
  each = All-push (IsLeafOf t) ls x w.each is;
}

pub pushed-at : (ls : List Leaf) (x : Leaf) (n : ℕ) → n ≤ length ls → IsAtDepth (take n ls ++ x ∷ []) n x.place
pushed-at ls x n low =
    let long : length (take n ls) ≡ n = let l = length-take n ls in omega arith in
    let one : length (x ∷ []) ≡ 1 = refl in
    record {
      within = let l = length-append (take n ls) (x ∷ []) in omega arith;
      place_is = λ d. ap (λ (l : Leaf). l.place) (subst (λ k. get_or (take n ls ++ x ∷ []) k d ≡ x) long (get_or-append_seam (take n ls) x [] d));
    }

pub leaf-read : (t : ProofTree) (ls : List Leaf) (depth : ℕ) (x : Leaf) → IsWay t ls → depth < length ls → x ≡ get_or ls depth x → IsLeafOf t x
leaf-read t ls depth x w within is = subst (IsLeafOf t) (sym is) (w.each depth x within)

-- ---- the most-proving leaf

pub down-start : (t : ProofTree) → HasGrown t → GoesDown t 0 (position_of t 0)
unfolding position_by
down-start t g = down-root t g

pub down-more : (t : ProofTree) (place i : ℕ) → GoesDown t place (position_of t place) → best_child_at t.nodes (pairs_of t.nodes) place ≡ Some i → GoesDown t i (position_of t i)
down-more t place i g e =
    let b = down-below t place (position_of t place) g i e in
    down-child t place (position_of t place) g i (position_of t i) e (position-is t g.rooted i b.on.within ∙ b.on.there)

-- the leaf that is read at the depth of an equal tree's most-proving leaf is that leaf
pub proving-read : (t u : ProofTree) (ls : List Leaf) (depth : ℕ) (x : Leaf) → t ≡ u → IsRooted u → IsWay u ls → IsAtDepth ls depth (most_proving u).place → x ≡ get_or ls depth x → spot_at x.place x.board.position ≡ most_proving t
proving-read t u ls depth x same r w h is =
    let on = most_proving-on u r in
    let leaf = leaf-read u ls depth x w h.within is in
    let place = ap (λ (l : Leaf). l.place) is ∙ h.place_is x in
    same-spot t u x.place x.board.position same place (leaf.at.position ∙ ap (position_of u) place ∙ position-is u r (most_proving u).place on.within ∙ on.there)

-- ---- what stays when a tree grows

-- parents and moves of nodes stay
record KeepsMoves (nodes nodes' : List Node) : Type 0 where
  longer : length nodes ≤ length nodes'
  node : (i : ℕ) (v : Node) → slice_get nodes i ≡ Some v → (w : Node) × (slice_get nodes' i ≡ Some w) × (w.parent ≡ v.parent) × (w.chosen ≡ v.chosen)

keeps-itself : (nodes : List Node) → KeepsMoves nodes nodes
keeps-itself nodes = record { longer = omega arith; node = λ i v is. (v, is, refl, refl) }

set-keeps : (nodes : List Node) (at : ℕ) (v : Node) (x : State) → slice_get nodes at ≡ Some v → KeepsMoves nodes (set nodes at (record v { state = x }))
set-keeps nodes at v x h = record {
  longer = let e = length-set nodes at (record v { state = x }) in omega arith;
  node = λ i u is. by_place i u is (cases_eq i at);
}
  where
    by_place : (i : ℕ) (u : Node) → slice_get nodes i ≡ Some u → (i ≡ at) ⊎ (i ≡ at → ⊥) → (w : Node) × (slice_get (set nodes at (record v { state = x })) i ≡ Some w) × (w.parent ≡ u.parent) × (w.chosen ≡ u.chosen)
    by_place i u is (inl e) =
        let same : v ≡ u = some_same (slice_get nodes i) v u (subst (λ k. slice_get nodes k ≡ Some v) (sym e) h) is in
        (record v { state = x }, ap (slice_get (set nodes at (record v { state = x }))) e ∙ slice_get-set_same nodes at (record v { state = x }) (slice_get_within nodes at v h), ap (λ (y : Node). y.parent) same, ap (λ (y : Node). y.chosen) same)
    by_place i u is (inr e) = (u, slice_get-set_other nodes at i (record v { state = x }) (λ z. e (sym z)) ∙ is, refl, refl)

append-keeps : (nodes nodes' xs : List Node) → KeepsMoves nodes nodes' → KeepsMoves nodes (nodes' ++ xs)
append-keeps nodes nodes' xs k = record {
  longer = let e = length-append nodes' xs in let l = k.longer in omega arith;
  node = λ i v is. let w = k.node i v is in (w.0, get-left nodes' xs i (slice_get_within nodes' i w.0 w.1) ∙ w.1, w.2, w.3);
}

after-keeps : (f : Frame) (nodes : List Node) (s : Spot) → KeepsMoves nodes (nodes_after f nodes s)
unfolding nodes_after
after-keeps f nodes s = by_node (slice_get nodes s.place) refl
  where
    by_state : (v : Node) → slice_get nodes s.place ≡ Some v → (o : Option State) (children : List Node) → KeepsMoves nodes (expanded_with nodes s.place v o children)
    by_state v h (Some x) children = set-keeps nodes s.place v x h
    by_state v h None children = append-keeps nodes _ children (set-keeps nodes s.place v (Inner (length nodes) (length children)) h)

    by_node : (o : Option Node) → slice_get nodes s.place ≡ o → KeepsMoves nodes (expanded_at f nodes s o)
    by_node None h = keeps-itself nodes
    by_node (Some v) h = by_state v h (state_by (end_at f s.place s.position) v.attacking v.left) (children_of f s.place v s.position)

module _ (rules : Rules) (root : Position) (nodes nodes' : List Node) (k : KeepsMoves nodes nodes') (placed : AreInPlace nodes) where
  position-kept : (d i : ℕ) → i < length nodes → position_by rules root nodes' d i ≡ position_by rules root nodes d i
  unfolding position_by
  position-kept zero i low = refl
  position-kept (suc d) i low = by_place (cases_lt 0 i) (there_is nodes i low) (λ j h. position-kept d j h)
    where
      by_place : (0 < i) ⊎ (i ≤ 0) → (v : Node) × (slice_get nodes i ≡ Some v) → ((j : ℕ) → j < length nodes → position_by rules root nodes' d j ≡ position_by rules root nodes d j) → cond (i == 0) root (position_step rules root (position_by rules root nodes' d) (slice_get nodes' i)) ≡ cond (i == 0) root (position_step rules root (position_by rules root nodes d) (slice_get nodes i))
      by_place (inr e) v more =
          let test : (i == 0) ≡ true = eq_to i 0 (omega arith) in
          ap (λ b. cond b root (position_step rules root (position_by rules root nodes' d) (slice_get nodes' i))) test
          ∙ sym (ap (λ b. cond b root (position_step rules root (position_by rules root nodes d) (slice_get nodes i))) test)
      by_place (inl some) (v, stands) more =
          let w = k.node i v stands in
          let up : v.parent < i = (placed i v stands).parent some in
          ap (cond (i == 0) root)
          (ap (position_step rules root (position_by rules root nodes' d)) w.1
          ∙ ap (λ j. position_after rules (position_by rules root nodes' d j) w.0.chosen) w.2
          ∙ ap (position_after rules (position_by rules root nodes' d v.parent)) w.3
          ∙ ap (λ p. position_after rules p v.chosen) (more v.parent (omega arith))
          ∙ sym (ap (position_step rules root (position_by rules root nodes d)) stands))

pub way-grown : (t : ProofTree) (nodes : List Node) (ls : List Leaf) → IsRooted t → nodes ≡ nodes_after t.frame t.nodes (most_proving t) → IsWay t ls → IsWay (record t { nodes = nodes }) ls
way-grown t nodes ls r e w = record { some = w.some; root = w.root; each = λ i d h. kept (get_or ls i d) (w.each i d h) }
  where
    keeps : KeepsMoves t.nodes nodes
    keeps = subst (KeepsMoves t.nodes) (sym e) (after-keeps t.frame t.nodes (most_proving t))

    kept : (l : Leaf) → IsLeafOf t l → IsLeafOf (record t { nodes = nodes }) l
    kept l is = record {
      rules = is.rules;
      at = record {
        within = let a = is.at.within in let b = keeps.longer in omega arith;
        position = is.at.position ∙ sym (position-kept t.frame.rules t.root t.nodes nodes keeps (in_place t.frame t.root t.moves t.nodes r) l.place l.place is.at.within);
      };
    }
