-- The leaf that is expanded was not looked at yet, so less is left to do afterwards.
use Rattle.std.proofs.Common.{◌≡◌, ◌⊎◌, inl, inr, ℕ, zero, suc, ◌+◌, ◌^◌, ◌<◌, ◌≤◌, ◌==◌, min, nat_lt, List, [], ◌∷◌, ◌++◌, map, take, drop, length, set, get_or, Bool, true, false, ◌&&◌, not, Option, Some, None, slice_get, option_and_then, position, cond, refl, ap, sym, ◌∙◌, subst, arith}
use Rattle.std.specs.Option.{option_map}
use Rattle.std.specs.List.{position_or_len}
use Rattle.std.proofs.lemmas.Bool.{cases_lt}
use Rattle.std.proofs.lemmas.Bool.Decides.{nat_tests}
use Rattle.std.proofs.lemmas.List.{length-take, get_or-take, get_or-drop, length-set, length-append, length-map}
use Rattle.std.proofs.lemmas.List.Quantifiers.{position-Some}
use Rattle.std.proofs.lemmas.List.Sums.{fails_before_first}
use Rattle.std.proofs.lemmas.Option.{slice_get_within}
use Rattle.rules_model.specs.declared.board.Position.{Position}
use Rattle.rules_model.specs.declared.moves.Move.{Move}
use Rattle.rules_model.specs.Legal.{legal}
use Rattle.rules_model.specs.Repeats.{repeat_of}
use Rattle.forced_wins.proofs.Counts.{eq_from, eq_to, true_false}
use Rattle.mate_core.specs.declared.frame.Frame.{Frame}
use Rattle.pn_search.specs.declared.node.Node.{Node}
use Rattle.pn_search.specs.declared.node.State.{State}
use Rattle.pn_search.specs.declared.node.State.TheVariants.{Open, Won, Lost, Inner}
use Rattle.pn_search.specs.declared.numbers.Pair.{Pair}
use Rattle.pn_search.specs.Kept.{open_leaf, open_leaves, work_left}
use Rattle.pn_search.specs.Numbers.{infinite, sum_of, least_of, own_number, pair_with, inner_pair, open_pair, of_children, first_child, pair_at, numbers_of, pairs_of}
use Rattle.pn_search.specs.Shapes.{AreInPlace}
use Rattle.pn_search.specs.Trees.{ProofTree, Spot, best_child, best_child_at, child_spot, child_node, children_of, descend, end_at, expanded_at, expanded_with, most_proving, nodes_after, is_settled, is_settled_pair, state_by}
use Rattle.pn_search.proofs.Carried.{numbered, length-pairs}
use Rattle.pn_search.proofs.Descent.{IsOn, child_on, root-on, descend-step, descend-stop, best-none}
use Rattle.pn_search.proofs.Fair.{IsFair, AreFair, reached, barred, between, own-fair, fair_at}
use Rattle.pn_search.proofs.Grown.{IsRooted}
use Rattle.pn_search.proofs.Lists.{there_is}
use Rattle.pn_search.proofs.Standing.{AreRooted, in_place}

-- neither 0 nor infinite
abbrev IsMiddle : ℕ → Type 0
IsMiddle x = (0 < x) × (x < infinite)

middle-from : (q : Pair) → IsFair q → is_settled_pair q ≡ false → IsMiddle q.proof
middle-from q (reached e f) h = absurd (unsettled q (inr f) h)
  where
    unsettled : (p : Pair) → (p.proof ≡ infinite) ⊎ (p.disproof ≡ infinite) → is_settled_pair p ≡ false → ⊥
    unsettled p (inl e) k = grind (arith, nat_tests)
    unsettled p (inr e) k = grind (arith, nat_tests)
middle-from q (barred e f) h = absurd (unsettled q (inl e) h)
  where
    unsettled : (p : Pair) → (p.proof ≡ infinite) ⊎ (p.disproof ≡ infinite) → is_settled_pair p ≡ false → ⊥
    unsettled p (inl e) k = grind (arith, nat_tests)
    unsettled p (inr e) k = grind (arith, nat_tests)
middle-from q (between p r s t) h = (p, r)

-- one number in the middle says that the other is
other-middle : (a b : ℕ) → AreFair a b → IsMiddle a → IsMiddle b
other-middle a b (reached e f) m = absurd (let k = m.0 in omega arith)
other-middle a b (barred e f) m = absurd (let k = m.1 in omega arith)
other-middle a b (between p q r s) m = (r, s)

own-middle : (a : Bool) (q : Pair) → IsFair q → IsMiddle q.proof → IsMiddle (own_number a q)
own-middle true q fair m = m
own-middle false q fair m = other-middle q.proof q.disproof fair m

proof-middle : (a : Bool) (q : Pair) → IsFair q → IsMiddle (own_number a q) → IsMiddle q.proof
proof-middle true q fair m = m
proof-middle false q fair m = other-middle q.disproof q.proof (own-fair false q fair) m

-- ---- a child has the least number

least-at : (g : Pair → ℕ) (cs : List Pair) (d : Pair) → least_of (map g cs) < infinite → (k : ℕ) × (k < length cs) × (g (get_or cs k d) ≡ least_of (map g cs))
unfolding least_of
least-at g [] d h = absurd (omega arith)
least-at g (c ∷ cs) d h = by_first (cases_lt (least_of (map g cs)) (g c)) (λ e. least-at g cs d e)
  where
    by_first : (least_of (map g cs) < g c) ⊎ (g c ≤ least_of (map g cs)) → (least_of (map g cs) < infinite → (k : ℕ) × (k < length cs) × (g (get_or cs k d) ≡ least_of (map g cs))) → (k : ℕ) × (k < suc (length cs)) × (g (get_or (c ∷ cs) k d) ≡ min (g c) (least_of (map g cs)))
    by_first (inr low) more = (0, omega arith, omega arith)
    by_first (inl low) more = let rest = more (omega arith) in (suc rest.0, (let a = rest.1 in omega arith), (let e = rest.2 in omega arith))

found-first : (test : Pair → Bool) (cs : List Pair) (d : Pair) (k : ℕ) → k < length cs → test (get_or cs k d) ≡ true → (j : ℕ) × (position test cs ≡ Some j)
found-first test cs d k low passes = by_place (cases_lt (position_or_len test cs) (length cs))
  where
    by_place : (position_or_len test cs < length cs) ⊎ (length cs ≤ position_or_len test cs) → (j : ℕ) × (position test cs ≡ Some j)
    by_place (inl h) = (position_or_len test cs, (let e : nat_lt (position_or_len test cs) (length cs) ≡ true = grind (arith, nat_tests) in ap (λ b. cond b (Some (position_or_len test cs)) None) e))
    by_place (inr h) = absurd (true_false (test (get_or cs k d)) passes (fails_before_first test cs k d (omega arith)))

own-with : (a : Bool) (own others : ℕ) → own_number a (pair_with a own others) ≡ own
own-with true own others = refl
own-with false own others = refl

module _ (f : Frame) (root : Position) (n : ℕ) (nodes : List Node) (r : AreRooted f root n nodes) where
  abbrev ps : List Pair
  ps = pairs_of nodes

  placed : AreInPlace nodes
  placed = in_place f root n nodes r

  fair-here : (i : ℕ) → i < length nodes → IsFair (pair_at ps i)
  fair-here i h = fair_at nodes i (let l = length-pairs nodes in omega arith)

  -- below a node with children that is not settled is a child that is not
  inner-on : (i : ℕ) (v : Node) (first count : ℕ) → slice_get nodes i ≡ Some v → v.state ≡ Inner first count → IsMiddle (pair_at ps i).proof → (j : ℕ) × (best_child_at nodes ps i ≡ Some j) × IsMiddle (pair_at ps j).proof
  unfolding inner_pair
  inner-on i v first count stands state middle =
      let a = v.attacking in
      let cs = take count (drop first ps) in
      let q = pair_at ps i in
      let its = (placed i v stands).children first count state in
      let l = length-pairs nodes in
      let w = its.within in
      let within = slice_get_within nodes i v stands in
      let own : q ≡ pair_with a (least_of (map (own_number a) cs)) (sum_of (map (own_number (not a)) cs)) = numbered nodes placed i v stands ∙ ap (λ s. numbers_of s a (of_children s ps)) state in
      let number : own_number a q ≡ least_of (map (own_number a) cs) = ap (own_number a) own ∙ own-with a (least_of (map (own_number a) cs)) (sum_of (map (own_number (not a)) cs)) in
      let m = own-middle a q (fair-here i within) middle in
      let low : least_of (map (own_number a) cs) < infinite = subst (λ x. x < infinite) number m.1 in
      let k = least-at (own_number a) cs open_pair low in
      let passes : (own_number a (get_or cs k.0 open_pair) == own_number a q) ≡ true = eq_to (own_number a (get_or cs k.0 open_pair)) (own_number a q) (k.2 ∙ sym number) in
      let j = found-first (λ c. own_number a c == own_number a q) cs open_pair k.0 k.1 passes in
      let at = position-Some (λ c. own_number a c == own_number a q) cs j.0 open_pair j.1 in
      let few = length-take count (drop first ps) in
      let in_count : j.0 < count = let b = at.0 in omega arith in
      let best : best_child_at nodes ps i ≡ Some (first + j.0) =
      ap (option_and_then (best_child ps i)) stands
      ∙ ap (λ s. option_map (λ y. first_child s + y) (position (λ c. own_number a c == own_number a q) (of_children s ps))) state
      ∙ ap (option_map (λ y. first + y)) j.1 in
      let child : get_or cs j.0 open_pair ≡ pair_at ps (first + j.0) = get_or-take count (drop first ps) j.0 open_pair in_count ∙ get_or-drop first ps j.0 open_pair in
      let same : own_number a (pair_at ps (first + j.0)) ≡ own_number a q = ap (own_number a) (sym child) ∙ eq_from (own_number a (get_or cs j.0 open_pair)) (own_number a q) at.1 in
      let own_of_child : IsMiddle (own_number a (pair_at ps (first + j.0))) = subst IsMiddle (sym same) m in
      (first + j.0, best, proof-middle a (pair_at ps (first + j.0)) (fair-here (first + j.0) (omega arith)) own_of_child)

  pub record IsOpenAt (i : ℕ) : Type 0 where
    pub node : Node
    pub stands : slice_get nodes i ≡ Some node
    pub open_state : node.state ≡ Open

  ends-open : (d : ℕ) (s : Spot) → IsOn f root n nodes r s → length nodes ≤ s.place + d → IsMiddle (pair_at ps s.place).proof → IsOpenAt (descend f.rules nodes ps d s).place
  ends-open zero s on far middle = absurd (let w = on.within in omega arith)
  ends-open (suc d) s on far middle = by_node (λ t on far m. ends-open d t on far m) (there_is nodes s.place on.within)
    where
      by_state : ((t : Spot) → IsOn f root n nodes r t → length nodes ≤ t.place + d → IsMiddle (pair_at ps t.place).proof → IsOpenAt (descend f.rules nodes ps d t).place) → (v : Node) → slice_get nodes s.place ≡ Some v → (st : State) → v.state ≡ st → IsOpenAt (descend f.rules nodes ps (suc d) s).place
      by_state more v stands Open e =
          let none = sym (best-none nodes ps s.place v stands (λ first count is. open_not_inner first count (sym e ∙ is))) in
          let stays = descend-stop f nodes ps (suc d) s none in
          subst (λ (t : Spot). IsOpenAt t.place) (sym stays) (record { node = v; stands = stands; open_state = e })
        where
          open_not_inner : (first count : ℕ) → Open ≡ Inner first count → ⊥
          open_not_inner first count k = cc
      by_state more v stands Won e =
          let own = numbered nodes placed s.place v stands ∙ ap (λ x. numbers_of x v.attacking (of_children x ps)) e in
          let zero_proof = ap (λ (y : Pair). y.proof) own in
          absurd (let m = middle.0 in omega arith)
      by_state more v stands Lost e =
          let own = numbered nodes placed s.place v stands ∙ ap (λ x. numbers_of x v.attacking (of_children x ps)) e in
          let no_proof = ap (λ (y : Pair). y.proof) own in
          absurd (let m = middle.1 in omega arith)
      by_state more v stands (Inner first count) e =
          let j = inner-on s.place v first count stands e middle in
          let b = child_on f root n nodes r ps s on j.0 j.1 in
          let step = descend-step f nodes ps d s j.0 j.1 in
          subst (λ (t : Spot). IsOpenAt t.place) (sym step) (more (child_spot f.rules nodes s j.0) b.on (let a = b.deeper in omega arith) j.2)

      by_node : ((t : Spot) → IsOn f root n nodes r t → length nodes ≤ t.place + d → IsMiddle (pair_at ps t.place).proof → IsOpenAt (descend f.rules nodes ps d t).place) → (v : Node) × (slice_get nodes s.place ≡ Some v) → IsOpenAt (descend f.rules nodes ps (suc d) s).place
      by_node more (v, stands) = by_state more v stands v.state refl

-- the most-proving leaf of a tree that is not settled
pub leaf-open : (t : ProofTree) (r : IsRooted t) → is_settled t ≡ false → IsOpenAt t.frame t.root t.moves t.nodes r (most_proving t).place
unfolding most_proving is_settled
leaf-open t r h =
    ends-open t.frame t.root t.moves t.nodes r (length t.nodes) (record { place = 0; position = t.root }) (root-on t.frame t.root t.moves t.nodes r) (omega arith)
    (middle-from (pair_at (pairs_of t.nodes) 0) (fair-here t.frame t.root t.moves t.nodes r 0 r.some) h)

-- ---- less is left to do

open-append : (xs ys : List Node) → open_leaves (xs ++ ys) ≡ open_leaves xs + open_leaves ys
unfolding open_leaves
open-append [] ys = omega arith
open-append (x ∷ xs) ys = let h = open-append xs ys in omega arith

open-set : (xs : List Node) (i : ℕ) (v w : Node) → slice_get xs i ≡ Some v → open_leaf v.state ≡ 1 → open_leaf w.state ≡ 0 → open_leaves (set xs i w) + 1 ≡ open_leaves xs
unfolding open_leaves
open-set [] i v w h e k = cc
open-set (x ∷ xs) zero v w h e k =
    let same : x ≡ v = let g : ◌≡◌ {A = Option Node} (Some x) (Some v) = h in cc in
    let one : open_leaf x.state ≡ 1 = ap (λ (y : Node). open_leaf y.state) same ∙ e in
    omega arith
open-set (x ∷ xs) (suc i) v w h e k = let rest = open-set xs i v w h e k in omega arith

open-children : (f : Frame) (at : ℕ) (v : Node) (p : Position) (ms : List Move) → open_leaves (map (child_node f at v p) ms) ≡ length ms
unfolding open_leaves
open-children f at v p [] = refl
open-children f at v p (m ∷ ms) = let h = open-children f at v p ms in omega arith

closed-state : (o : Option Bool) (a : Bool) (left : ℕ) (s : State) → state_by o a left ≡ Some s → open_leaf s ≡ 0
closed-state (Some true) a left s h = let e : Won ≡ s = (let g : ◌≡◌ {A = Option State} (Some Won) (Some s) = h in cc) in ap open_leaf (sym e)
closed-state (Some false) a left s h = let e : Lost ≡ s = (let g : ◌≡◌ {A = Option State} (Some Lost) (Some s) = h in cc) in ap open_leaf (sym e)
closed-state None a left s h = by_test (a && (left == 0)) h
  where
    by_test : (b : Bool) → ◌≡◌ {A = Option State} (cond b (Some Lost) None) (Some s) → open_leaf s ≡ 0
    by_test true g = let e : Lost ≡ s = cc in ap open_leaf (sym e)
    by_test false g = cc

module _ (t : ProofTree) (nodes : List Node) (few : length nodes < 2 ^ 32) where
  less-closed : (place : ℕ) (v w : Node) → slice_get t.nodes place ≡ Some v → open_leaf v.state ≡ 1 → open_leaf w.state ≡ 0 → nodes ≡ set t.nodes place w → work_left (record t { nodes = nodes }) < work_left t
  unfolding work_left
  less-closed place v w stands e k is =
      let a = ap length is ∙ length-set t.nodes place w in
      let b = ap open_leaves is in
      let c = open-set t.nodes place v w stands e k in
      omega arith

  less-opened : (place : ℕ) (v w : Node) (p : Position) (ms : List Move) → slice_get t.nodes place ≡ Some v → open_leaf v.state ≡ 1 → open_leaf w.state ≡ 0 → nodes ≡ set t.nodes place w ++ map (child_node t.frame place v p) ms → work_left (record t { nodes = nodes }) < work_left t
  unfolding work_left
  less-opened place v w p ms stands e k is =
      let a = ap length is ∙ length-append (set t.nodes place w) (map (child_node t.frame place v p) ms) in
      let b = length-set t.nodes place w in
      let l = length-map ms (child_node t.frame place v p) in
      let c = ap open_leaves is ∙ open-append (set t.nodes place w) (map (child_node t.frame place v p) ms) in
      let d = open-children t.frame place v p ms in
      let g = open-set t.nodes place v w stands e k in
      omega arith

  pub less-left : IsRooted t → is_settled t ≡ false → nodes ≡ nodes_after t.frame t.nodes (most_proving t) → work_left (record t { nodes = nodes }) < work_left t
  unfolding nodes_after
  less-left r open_root is =
      let leaf = leaf-open t r open_root in
      let s = most_proving t in
      let known = is ∙ ap (expanded_at t.frame t.nodes s) leaf.stands in
      by_state leaf.node leaf.stands (ap open_leaf leaf.open_state) (state_by (end_at t.frame s.place s.position) leaf.node.attacking leaf.node.left) refl known
    where
      by_state : (v : Node) → slice_get t.nodes (most_proving t).place ≡ Some v → open_leaf v.state ≡ 1 → (o : Option State) → state_by (end_at t.frame (most_proving t).place (most_proving t).position) v.attacking v.left ≡ o → nodes ≡ expanded_with t.nodes (most_proving t).place v (state_by (end_at t.frame (most_proving t).place (most_proving t).position) v.attacking v.left) (children_of t.frame (most_proving t).place v (most_proving t).position) → work_left (record t { nodes = nodes }) < work_left t
      by_state v stands e (Some x) by grown_nodes =
          less-closed (most_proving t).place v (record v { state = x }) stands e
          (closed-state (end_at t.frame (most_proving t).place (most_proving t).position) v.attacking v.left x by)
          (grown_nodes ∙ ap (λ o. expanded_with t.nodes (most_proving t).place v o (children_of t.frame (most_proving t).place v (most_proving t).position)) by)
      by_state v stands e None by grown_nodes =
          less-opened (most_proving t).place v (record v { state = Inner (length t.nodes) (length (children_of t.frame (most_proving t).place v (most_proving t).position)) }) (most_proving t).position (legal t.frame.rules (repeat_of (most_proving t).position)) stands e refl
          (grown_nodes ∙ ap (λ o. expanded_with t.nodes (most_proving t).place v o (children_of t.frame (most_proving t).place v (most_proving t).position)) by)
