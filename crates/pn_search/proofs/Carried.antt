-- Pairs that are worked out node by node, and the pairs of all nodes.
use Rattle.std.proofs.Common.{◌≡◌, ◌⊎◌, inl, inr, ℕ, zero, suc, ◌+◌, ◌-◌, ◌<◌, ◌≤◌, List, [], ◌∷◌, take, drop, length, get_or, set, true, false, ◌&&◌, ◌==◌, Option, Some, None, slice_get, refl, ap, sym, ◌∙◌, subst, arith}
use Rattle.std.proofs.lemmas.Bool.{and_parts, cases_lt}
use Rattle.std.proofs.lemmas.List.{drop-set-lt, drop-set-add, take-set-le, drop-drop, get_or-drop, get_or-set_same, get_or-set_other}
use Rattle.std.proofs.lemmas.Bool.{eqb-true}
use Rattle.pn_search.specs.declared.node.Node.{Node}
use Rattle.pn_search.specs.declared.node.State.{State}
use Rattle.pn_search.specs.declared.node.State.TheVariants.{Open, Won, Lost, Inner}
use Rattle.pn_search.specs.declared.numbers.Pair.{Pair}
use Rattle.pn_search.specs.Numbers.{open_pair, of_children, of_children_from, pair_at, numbers_of, pairs_from, pairs_of}
use Rattle.pn_search.specs.Shapes.{AreWithin, AreItsChildren, AreInPlace, IsNumbered}

-- what a read past the end would give
abbrev pub no_node : Node
no_node = record { parent = 0; state = Open; chosen = None; left = 0; attacking = false }

abbrev pub no_pair : Pair
no_pair = record { proof = 0; disproof = 0 }

-- ---- what a write changes

apart : (first count i : ℕ) (ps : List Pair) (q : Pair) → (i < first) ⊎ (first + count ≤ i) → take count (drop first (set ps i q)) ≡ take count (drop first ps)
apart first count i ps q (inl h) = ap (take count) (drop-set-lt first ps i q h)
apart first count i ps q (inr h) =
    let e : first + (i - first) ≡ i = omega arith in
    let k : count ≤ i - first = omega arith in
    ap (λ n. take count (drop first (set ps n q))) (sym e) ∙ ap (take count) (drop-set-add first ps (i - first) q) ∙ take-set-le count (drop first ps) (i - first) q k

same_children : (s : State) (ps : List Pair) (i : ℕ) (q : Pair) → ((first count : ℕ) → s ≡ Inner first count → (i < first) ⊎ (first + count ≤ i)) → of_children s (set ps i q) ≡ of_children s ps
same_children Open ps i q h = refl
same_children Won ps i q h = refl
same_children Lost ps i q h = refl
same_children (Inner first count) ps i q h = apart first count i ps q (h first count refl)

pub same_pair : (p q : Pair) → ((p.proof == q.proof) && (p.disproof == q.disproof)) ≡ true → p ≡ q
same_pair p q h =
    let both = and_parts (p.proof == q.proof) (p.disproof == q.disproof) h in
    let proofs = eqb-true p.proof q.proof both.0 in
    let disproofs = eqb-true p.disproof q.disproof both.1 in
    λ i. record { proof = proofs i; disproof = disproofs i }

pub same_node : (nodes : List Node) (i : ℕ) (v w : Node) → slice_get nodes i ≡ Some v → slice_get nodes i ≡ Some w → v ≡ w
same_node nodes i v w h k = cc

pub within-length : (s : State) (nodes : List Node) (i : ℕ) → ((first count : ℕ) → s ≡ Inner first count → AreItsChildren nodes i first count) → AreWithin s (length nodes)
within-length Open nodes i h = tt
within-length Won nodes i h = tt
within-length Lost nodes i h = tt
within-length (Inner first count) nodes i h = (h first count refl).within

module _ (nodes : List Node) (placed : AreInPlace nodes) where
  -- the node whose pair is written
  pub wrote-here : (ps : List Pair) (at : ℕ) (v : Node) (q : Pair) → slice_get nodes at ≡ Some v → at < length ps → q ≡ numbers_of v.state v.attacking (of_children v.state ps) → IsNumbered nodes (set ps at q) at
  wrote-here ps at v q h within e w k = subst (λ x. pair_at (set ps at q) at ≡ numbers_of x.state x.attacking (of_children x.state (set ps at q))) (same_node nodes at v w h k) own
    where
      own : pair_at (set ps at q) at ≡ numbers_of v.state v.attacking (of_children v.state (set ps at q))
      own =
          get_or-set_same ps at q open_pair within ∙ e
          ∙ ap (numbers_of v.state v.attacking) (sym (same_children v.state ps at q (λ first count is. inl ((placed at v h).children first count is).after)))

  -- the others, but for its parent
  pub wrote-others : (ps : List Pair) (at : ℕ) (v : Node) (q : Pair) → slice_get nodes at ≡ Some v → (i : ℕ) → (i ≡ at → ⊥) → (0 < at → i ≡ v.parent → ⊥) → IsNumbered nodes ps i → IsNumbered nodes (set ps at q) i
  wrote-others ps at v q h i other above so w k =
      get_or-set_other ps at i q open_pair other ∙ so w k ∙ ap (numbers_of w.state w.attacking) (sym (same_children w.state ps at q outside))
    where
      outside : (first count : ℕ) → w.state ≡ Inner first count → (at < first) ⊎ (first + count ≤ at)
      outside first count is = by_place (cases_lt at first) (cases_lt at (first + count))
        where
          its : AreItsChildren nodes i first count
          its = (placed i w k).children first count is

          by_place : (at < first) ⊎ (first ≤ at) → (at < first + count) ⊎ (first + count ≤ at) → (at < first) ⊎ (first + count ≤ at)
          by_place (inl a) b = inl a
          by_place (inr a) (inr b) = inr b
          by_place (inr a) (inl b) = absurd (above (let c = its.after in omega arith) (sym (its.parent at v a b h)))

  -- ---- from nodes to the list

  from_behind : (at : ℕ) (s : State) (ps : List Pair) → ((first count : ℕ) → s ≡ Inner first count → at < first) → of_children s ps ≡ of_children_from (suc at) s (drop (suc at) ps)
  from_behind at Open ps h = refl
  from_behind at Won ps h = refl
  from_behind at Lost ps h = refl
  from_behind at (Inner first count) ps h =
      let a = h first count refl in
      let e : suc at + (first - suc at) ≡ first = omega arith in
      sym (ap (take count) (drop-drop (first - suc at) (suc at) ps ∙ ap (λ n. drop n ps) e))

  behind-node : (at : ℕ) (v : Node) (ps : List Pair) → slice_get nodes at ≡ Some v → of_children v.state ps ≡ of_children_from (suc at) v.state (drop (suc at) ps)
  behind-node at v ps h = from_behind at v.state ps (λ first count is. ((placed at v h).children first count is).after)

  tail_of : (at : ℕ) (ps qs : List Pair) (q : Pair) → drop at ps ≡ q ∷ qs → drop (suc at) ps ≡ qs
  tail_of at ps qs q h =
      let e : at + 1 ≡ suc at = omega arith in
      ap (λ n. drop n ps) (sym e) ∙ sym (drop-drop 1 at ps) ∙ ap (drop 1) h

  head_of : (at : ℕ) (ps qs : List Pair) (q : Pair) → drop at ps ≡ q ∷ qs → q ≡ pair_at ps at
  head_of at ps qs q h =
      let e : at + 0 ≡ at = omega arith in
      sym (ap (λ xs. get_or xs 0 open_pair) h) ∙ get_or-drop at ps 0 open_pair ∙ ap (λ n. get_or ps n open_pair) e

  from_numbered : (ps : List Pair) → ((i : ℕ) → IsNumbered nodes ps i) → (at : ℕ) (vs : List Node) (qs : List Pair) → ((i : ℕ) (v : Node) → slice_get vs i ≡ Some v → slice_get nodes (at + i) ≡ Some v) → drop at ps ≡ qs → length qs ≡ length vs → qs ≡ pairs_from at vs
  unfolding pairs_from
  from_numbered ps all at [] [] stands is len = refl
  from_numbered ps all at [] (q ∷ qs) stands is len = absurd (omega arith)
  from_numbered ps all at (v ∷ vs) [] stands is len = absurd (omega arith)
  from_numbered ps all at (v ∷ vs) (q ∷ qs) stands is len =
      let rest = tail_of at ps qs q is in
      let later = from_numbered ps all (suc at) vs qs (λ i w k. let e : at + suc i ≡ suc at + i = omega arith in subst (λ n. slice_get nodes n ≡ Some w) e (stands (suc i) w k)) rest (omega arith) in
      let here : slice_get nodes at ≡ Some v = let e : at + 0 ≡ at = omega arith in subst (λ n. slice_get nodes n ≡ Some v) e (stands 0 v refl) in
      let own : q ≡ numbers_of v.state v.attacking (of_children_from (suc at) v.state (pairs_from (suc at) vs)) = head_of at ps qs q is ∙ all at v here ∙ ap (numbers_of v.state v.attacking) (behind-node at v ps here ∙ ap (of_children_from (suc at) v.state) (rest ∙ later)) in
      λ i. own i ∷ later i

  pub worked_out : (ps : List Pair) → length ps ≡ length nodes → ((i : ℕ) → IsNumbered nodes ps i) → ps ≡ pairs_of nodes
  unfolding pairs_of
  worked_out ps len all = from_numbered ps all 0 nodes ps (λ i v k. let e : i ≡ 0 + i = omega arith in subst (λ n. slice_get nodes n ≡ Some v) e k) refl len

  -- ---- from the list to nodes

  drop-pairs : (k at : ℕ) (vs : List Node) → drop k (pairs_from at vs) ≡ pairs_from (at + k) (drop k vs)
  unfolding pairs_from
  drop-pairs zero at vs = let e : at ≡ at + 0 = omega arith in ap (λ n. pairs_from n vs) e
  drop-pairs (suc k) at [] = refl
  drop-pairs (suc k) at (v ∷ vs) = let e : suc at + k ≡ at + suc k = omega arith in drop-pairs k (suc at) vs ∙ ap (λ n. pairs_from n (drop k vs)) e

  node_drop : (i : ℕ) (vs : List Node) (v : Node) → slice_get vs i ≡ Some v → (rest : List Node) × (drop i vs ≡ v ∷ rest) × (drop (suc i) vs ≡ rest)
  node_drop i [] v h = cc
  node_drop zero (w ∷ vs) v h = (vs, (let e : ◌≡◌ {A = Option Node} (Some w) (Some v) = h in let f : w ≡ v = cc in ap (λ x. x ∷ vs) f), refl)
  node_drop (suc i) (w ∷ vs) v h = node_drop i vs v h

  pub numbered : (i : ℕ) → IsNumbered nodes (pairs_of nodes) i
  unfolding pairs_of pairs_from
  numbered i v h =
      let cut = node_drop i nodes v h in
      let ps = pairs_from 0 nodes in
      let zero_more : 0 + i ≡ i = omega arith in
      let suc_more : 0 + suc i ≡ suc i = omega arith in
      let here : drop i ps ≡ pairs_from i (v ∷ cut.0) = drop-pairs i 0 nodes ∙ ap (λ n. pairs_from n (drop i nodes)) zero_more ∙ ap (pairs_from i) cut.1 in
      let later : drop (suc i) ps ≡ pairs_from (suc i) cut.0 = drop-pairs (suc i) 0 nodes ∙ ap (λ n. pairs_from n (drop (suc i) nodes)) suc_more ∙ ap (pairs_from (suc i)) cut.2 in
      sym (head_of i ps (pairs_from (suc i) cut.0) (numbers_of v.state v.attacking (of_children_from (suc i) v.state (pairs_from (suc i) cut.0))) here)
      ∙ ap (numbers_of v.state v.attacking) (sym (behind-node i v ps h ∙ ap (of_children_from (suc i) v.state) later))

length-from : (at : ℕ) (vs : List Node) → length (pairs_from at vs) ≡ length vs
unfolding pairs_from
length-from at [] = refl
length-from at (v ∷ vs) = ap suc (length-from (suc at) vs)

pub length-pairs : (nodes : List Node) → length (pairs_of nodes) ≡ length nodes
unfolding pairs_of
length-pairs nodes = length-from 0 nodes
