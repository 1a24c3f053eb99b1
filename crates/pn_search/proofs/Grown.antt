-- The nodes of each tree that has grown stand at their positions.
use Rattle.std.proofs.Common.{◌≡◌, ◌⊎◌, inl, inr, ℕ, zero, suc, ◌+◌, ◌<◌, ◌≤◌, List, [], ◌∷◌, length, get_or, Bool, true, false, Option, Some, None, slice_get, option_and_then, cond, ◌==◌, refl, ap, sym, ◌∙◌, subst, arith}
use Rattle.std.proofs.lemmas.Bool.{cases_lt}
use Rattle.std.proofs.lemmas.Bool.Decides.{nat_tests}
use Rattle.std.proofs.lemmas.Option.{slice_get-get_or, slice_get_within}
use Rattle.foundation.specs.Member.{Member}
use Rattle.rules_model.specs.declared.board.Position.{Position}
use Rattle.rules_model.specs.declared.moves.Move.{Move}
use Rattle.rules_model.specs.Legal.{legal}
use Rattle.rules_model.specs.Next.{next}
use Rattle.rules_model.specs.Repeats.{repeat_of}
use Rattle.mate_core.specs.declared.frame.Frame.{Frame}
use Rattle.forced_wins.proofs.Counts.{eq_to}
use Rattle.forced_wins.proofs.Lists.{listed}
use Rattle.pn_search.specs.declared.node.Node.{Node}
use Rattle.pn_search.specs.declared.node.State.TheVariants.{Inner}
use Rattle.pn_search.specs.declared.numbers.Pair.{Pair}
use Rattle.pn_search.specs.Numbers.{pairs_of}
use Rattle.pn_search.specs.Shapes.{AreInPlace}
use Rattle.pn_search.specs.Trees.{ProofTree, Spot, root_node, new_tree, is_settled, most_proving, nodes_after, expanded_at, expanded, grown, pn, HasGrown, descend, best_child_at, chosen_at, position_after, position_by, position_step, position_of}
use Rattle.pn_search.proofs.Lists.{there_is, some_same}
use Rattle.pn_search.proofs.Standing.{AreRooted, StandsAt, IsStateOf, in_place, expanded-rooted}
use Rattle.pn_search.proofs.Descent.{IsOn, IsBelow, child_on, root-on, descend-on, descend-step, descend-stop}

abbrev pub IsRooted : ProofTree → Type 0
IsRooted t = AreRooted t.frame t.root t.moves t.nodes

one_at : (v : Node) (i : ℕ) (w : Node) → slice_get (v ∷ []) i ≡ Some w → (i ≡ 0) × (v ≡ w)
one_at v zero w h = (refl, (let e : ◌≡◌ {A = Option Node} (Some v) (Some w) = h in cc))
one_at v (suc i) w h = cc

pub new-rooted : (f : Frame) (root : Position) (n : ℕ) → AreRooted f root n (root_node f root n ∷ [])
new-rooted f root n = record {
  position = λ i. root;
  starts = refl;
  some = omega arith;
  left = λ v h. ap (λ (x : Node). x.left) (sym (one_at (root_node f root n) 0 v h).1);
  each = λ i v h.
      let e = one_at (root_node f root n) i v h in
      subst (StandsAt f (root_node f root n ∷ []) (λ j. root) i) e.1 (record { turn = refl; parent = λ z. let a = e.0 in omega arith; leads = λ z. absurd (let a = e.0 in omega arith); state = tt });
}

pub most_proving-on : (t : ProofTree) (r : IsRooted t) → IsOn t.frame t.root t.moves t.nodes r (most_proving t)
unfolding most_proving
most_proving-on t r = descend-on t.frame t.root t.moves t.nodes r (pairs_of t.nodes) (length t.nodes) (record { place = 0; position = t.root }) (root-on t.frame t.root t.moves t.nodes r)

pub expanded-grows : (t : ProofTree) → IsRooted t → IsRooted (expanded t)
unfolding expanded nodes_after
expanded-grows t r =
    let on = most_proving-on t r in
    let s = most_proving t in
    let v = there_is t.nodes s.place on.within in
    subst (λ o. AreRooted t.frame t.root t.moves (expanded_at t.frame t.nodes s o)) (sym v.1)
    (expanded-rooted t.frame t.root t.moves t.nodes r s.place s.position v.0 v.1 on.there)

grown-expanded : (t u : ProofTree) → grown t ≡ Some u → (is_settled t ≡ false) × (expanded t ≡ u)
unfolding grown
grown-expanded t u h = by_test (is_settled t) refl h
  where
    by_test : (b : Bool) → is_settled t ≡ b → cond b None (Some (expanded t)) ≡ Some u → (is_settled t ≡ false) × (expanded t ≡ u)
    by_test true e k = cc
    by_test false e k = (e, (let g : ◌≡◌ {A = Option ProofTree} (Some (expanded t)) (Some u) = k in cc))

pub pn-rooted : (f : Frame) (root : Position) (n k : ℕ) (t : ProofTree) → pn f root n k ≡ Some t → IsRooted t
unfolding pn new_tree
pn-rooted f root n zero t h = subst IsRooted (let g : ◌≡◌ {A = Option ProofTree} (Some (new_tree f root n)) (Some t) = h in let e : new_tree f root n ≡ t = cc in e) (new-rooted f root n)
pn-rooted f root n (suc k) t h = by_earlier (λ u. pn-rooted f root n k u) (pn f root n k) refl h
  where
    by_earlier : ((u : ProofTree) → pn f root n k ≡ Some u → IsRooted u) → (o : Option ProofTree) → pn f root n k ≡ o → option_and_then grown o ≡ Some t → IsRooted t
    by_earlier rooted None e g = cc
    by_earlier rooted (Some u) e g = subst IsRooted (grown-expanded u t g).1 (expanded-grows u (rooted u e))

-- ---- the way down

-- the place and the position are on the way to the most-proving leaf
pub record GoesDown (t : ProofTree) (place : ℕ) (p : Position) : Type 0 where
  pub rooted : IsRooted t
  pub on : IsOn t.frame t.root t.moves t.nodes rooted (record { place = place; position = p })
  pub steps : ℕ
  pub enough : length t.nodes ≤ place + steps
  pub rest : descend t.frame.rules t.nodes (pairs_of t.nodes) steps (record { place = place; position = p }) ≡ most_proving t

pub down-root : (t : ProofTree) → HasGrown t → GoesDown t 0 t.root
unfolding most_proving
down-root t g =
    let r = pn-rooted t.frame t.root t.moves g.expansions t g.is in
    record {
      rooted = r;
      on = root-on t.frame t.root t.moves t.nodes r;
      steps = length t.nodes;
      enough = omega arith;
      rest = refl;
    }

module _ (t : ProofTree) (place : ℕ) (p : Position) (g : GoesDown t place p) where
  pub down-placed : AreInPlace t.nodes
  down-placed = in_place t.frame t.root t.moves t.nodes g.rooted

  pub down-within : place < length t.nodes
  down-within = g.on.within

  pub down-below : (i : ℕ) → best_child_at t.nodes (pairs_of t.nodes) place ≡ Some i → IsBelow t.frame t.root t.moves t.nodes g.rooted (record { place = place; position = p }) i
  down-below i e = child_on t.frame t.root t.moves t.nodes g.rooted (pairs_of t.nodes) (record { place = place; position = p }) g.on i e

  pub down-deeper : (i : ℕ) → best_child_at t.nodes (pairs_of t.nodes) place ≡ Some i → (place < i) × (i < length t.nodes)
  down-deeper i e = let b = down-below i e in (b.deeper, b.on.within)

  pub down-legal : (i : ℕ) (m : Move) → best_child_at t.nodes (pairs_of t.nodes) place ≡ Some i → chosen_at t.nodes i ≡ Some m → Member m (legal t.frame.rules (repeat_of p))
  down-legal i m e c = (down-below i e).is_legal m c

  pub down-child : (i : ℕ) (q : Position) → best_child_at t.nodes (pairs_of t.nodes) place ≡ Some i → q ≡ position_after t.frame.rules p (chosen_at t.nodes i) → GoesDown t i q
  down-child i q e same = subst (GoesDown t i) (sym same) (by_steps g.steps g.enough g.rest)
    where
      b : IsBelow t.frame t.root t.moves t.nodes g.rooted (record { place = place; position = p }) i
      b = down-below i e

      by_steps : (d : ℕ) → length t.nodes ≤ place + d → descend t.frame.rules t.nodes (pairs_of t.nodes) d (record { place = place; position = p }) ≡ most_proving t → GoesDown t i (position_after t.frame.rules p (chosen_at t.nodes i))
      by_steps zero enough rest = absurd (let w = g.on.within in omega arith)
      by_steps (suc d) enough rest = record {
        rooted = g.rooted;
        on = b.on;
        steps = d;
        enough = let a = b.deeper in omega arith;
        rest = sym (descend-step t.frame t.nodes (pairs_of t.nodes) d (record { place = place; position = p }) i e) ∙ rest;
      }

  pub down-end : best_child_at t.nodes (pairs_of t.nodes) place ≡ None → ◌≡◌ {A = Spot} (record { place = place; position = p }) (most_proving t)
  down-end e = sym (descend-stop t.frame t.nodes (pairs_of t.nodes) g.steps (record { place = place; position = p }) e) ∙ g.rest

-- the move to a node, as it is read
pub chosen-read : (nodes : List Node) (i : ℕ) (d : Node) → i < length nodes → (get_or nodes i d).chosen ≡ chosen_at nodes i
chosen-read nodes i d h = sym (ap (option_and_then (λ (v : Node). v.chosen)) (slice_get-get_or nodes i d h))

pub index-chosen : (nodes nodes' : List Node) (i : ℕ) (x : Node) → nodes ≡ nodes' → i < length nodes' → x ≡ get_or nodes i x → x.chosen ≡ chosen_at nodes' i
index-chosen nodes nodes' i x e h is =
    ap (λ (v : Node). v.chosen) (is ∙ ap (λ xs. get_or xs i x) e) ∙ chosen-read nodes' i x h

-- the best child of a tree, as it is read
pub best-read : (t : ProofTree) (nodes : List Node) (ps : List Pair) (place : ℕ) (o : Option ℕ) → nodes ≡ t.nodes → ps ≡ pairs_of t.nodes → o ≡ best_child_at nodes ps place → best_child_at t.nodes (pairs_of t.nodes) place ≡ o
best-read t nodes ps place o e k h = sym (h ∙ ap (λ xs. best_child_at xs ps place) e ∙ ap (λ qs. best_child_at t.nodes qs place) k)

-- ---- positions

if_zero : (b : Bool) (root p q : Position) → root ≡ q → p ≡ q → cond b root p ≡ q
if_zero true root p q e h = e
if_zero false root p q e h = h

position-by : (t : ProofTree) (r : IsRooted t) (d i : ℕ) → i ≤ d → i < length t.nodes → position_by t.frame.rules t.root t.nodes d i ≡ r.position i
unfolding position_by
position-by t r zero i low within = sym r.starts ∙ ap r.position (let e : 0 ≡ i = omega arith in e)
position-by t r (suc d) i low within = by_place (cases_lt 0 i) (there_is t.nodes i within) (λ j h k. position-by t r d j h k)
  where
    by_place : (0 < i) ⊎ (i ≤ 0) → (v : Node) × (slice_get t.nodes i ≡ Some v) → ((j : ℕ) → j ≤ d → j < length t.nodes → position_by t.frame.rules t.root t.nodes d j ≡ r.position j) → cond (i == 0) t.root (position_step t.frame.rules t.root (position_by t.frame.rules t.root t.nodes d) (slice_get t.nodes i)) ≡ r.position i
    by_place (inr e) v more =
        let zero_is : i ≡ 0 = omega arith in
        let test : (i == 0) ≡ true = eq_to i 0 zero_is in
        ap (λ b. cond b t.root (position_step t.frame.rules t.root (position_by t.frame.rules t.root t.nodes d) (slice_get t.nodes i))) test ∙ sym r.starts ∙ ap r.position (sym zero_is)
    by_place (inl some) (v, stands) more =
        let s = r.each i v stands in
        let below = s.parent some in
        let up = more v.parent (omega arith) (omega arith) in
        let test : (i == 0) ≡ false = grind (arith, nat_tests) in
        ap (λ b. cond b t.root (position_step t.frame.rules t.root (position_by t.frame.rules t.root t.nodes d) (slice_get t.nodes i))) test
        ∙ ap (position_step t.frame.rules t.root (position_by t.frame.rules t.root t.nodes d)) stands
        ∙ ap (λ p. position_after t.frame.rules p v.chosen) up
        ∙ sym (s.leads some)

pub position-is : (t : ProofTree) (r : IsRooted t) (i : ℕ) → i < length t.nodes → position_of t i ≡ r.position i
position-is t r i within = position-by t r i i (omega arith) within

-- a child of a node, where that is and whether its move is legal
pub record IsChildOf (t : ProofTree) (i j : ℕ) (m : Option Move) : Type 0 where
  pub deeper : i < j
  pub within : j < length t.nodes
  pub is_legal : (x : Move) → m ≡ Some x → Member x (legal t.frame.rules (repeat_of (position_of t i)))
  pub leads : position_after t.frame.rules (position_of t i) m ≡ position_of t j

pub child-of : (t : ProofTree) → IsRooted t → (i k : ℕ) (v : Node) (first count : ℕ) → slice_get t.nodes i ≡ Some v → v.state ≡ Inner first count → k < count → (w : Node) → slice_get t.nodes (first + k) ≡ Some w → IsChildOf t i (first + k) w.chosen
child-of t r i k v first count stands state low w there =
    let c = subst (IsStateOf t.frame t.nodes r.position i (r.position i) v) state (r.each i v stands).state in
    let m = there_is (legal t.frame.rules (repeat_of (r.position i))) k (let a = c.all in omega arith) in
    let x = c.each k m.0 m.1 in
    let same : x.child ≡ w = some_same (slice_get t.nodes (first + k)) x.child w x.stands there in
    let chosen : w.chosen ≡ Some m.0 = ap (λ (y : Node). y.chosen) (sym same) ∙ x.chosen in
    let own = position-is t r i (slice_get_within t.nodes i v stands) in
    let within = slice_get_within t.nodes (first + k) w there in
    let after = c.after in
    record {
      deeper = omega arith;
      within = within;
      is_legal = λ y e. subst (λ z. Member z (legal t.frame.rules (repeat_of (position_of t i)))) (some_same w.chosen m.0 y chosen e) (subst (λ p. Member m.0 (legal t.frame.rules (repeat_of p))) (sym own) (listed (legal t.frame.rules (repeat_of (r.position i))) k m.0 m.1));
      leads = ap (position_after t.frame.rules (position_of t i)) chosen ∙ ap (λ p. next t.frame.rules p m.0) own ∙ sym x.leads ∙ sym (position-is t r (first + k) within);
    }

-- the place of a child, before it is read
pub child-within : (t : ProofTree) → IsRooted t → (i k : ℕ) (v : Node) (first count : ℕ) → slice_get t.nodes i ≡ Some v → v.state ≡ Inner first count → k < count → first + k < length t.nodes
child-within t r i k v first count stands state low =
    let within = ((in_place t.frame t.root t.moves t.nodes r i v stands).children first count state).within in
    omega arith
