-- The way down a tree leads to nodes at their positions, by legal moves.
use Rattle.std.proofs.Common.{◌≡◌, ℕ, zero, suc, ◌+◌, ◌<◌, ◌==◌, List, take, drop, length, get_or, Bool, Option, Some, None, slice_get, option_and_then, position, refl, ap, sym, ◌∙◌, subst, arith}
use Rattle.std.specs.Option.{option_map}
use Rattle.std.proofs.lemmas.List.{length-take, get_or_default}
use Rattle.std.proofs.lemmas.List.Quantifiers.{position-Some}
use Rattle.std.proofs.lemmas.Option.{slice_get_within}
use Rattle.foundation.specs.Member.{Member}
use Rattle.rules_model.specs.declared.board.Position.{Position}
use Rattle.rules_model.specs.declared.moves.Move.{Move}
use Rattle.rules_model.specs.Legal.{legal}
use Rattle.rules_model.specs.Repeats.{repeat_of}
use Rattle.forced_wins.proofs.Lists.{listed}
use Rattle.mate_core.specs.declared.frame.Frame.{Frame}
use Rattle.pn_search.specs.declared.node.Node.{Node}
use Rattle.pn_search.specs.declared.node.State.{State}
use Rattle.pn_search.specs.declared.node.State.TheVariants.{Open, Won, Lost, Inner}
use Rattle.pn_search.specs.declared.numbers.Pair.{Pair}
use Rattle.pn_search.specs.Numbers.{own_number, of_children, first_child, open_pair, pair_at}
use Rattle.pn_search.specs.Trees.{Spot, best_child, best_child_at, chosen_at, child_spot, position_after, go_on, descend}
use Rattle.pn_search.proofs.Carried.{no_pair}
use Rattle.pn_search.proofs.Lists.{there_is, some_same}
use Rattle.pn_search.proofs.Standing.{AreRooted, IsStateOf, HasChildren}

-- the best child is one of the children
pub found_among : (a : Bool) (number : ℕ) (s : State) (ps : List Pair) (i : ℕ) → option_map (λ k. first_child s + k) (position (λ c. own_number a c == number) (of_children s ps)) ≡ Some i → (first : ℕ) × (count : ℕ) × (k : ℕ) × (s ≡ Inner first count) × (k < count) × (i ≡ first + k)
found_among a number Open ps i h = cc
found_among a number Won ps i h = cc
found_among a number Lost ps i h = cc
found_among a number (Inner first count) ps i h = by_found (position test xs) refl h
  where
    test : Pair → Bool
    test = λ c. own_number a c == number

    xs : List Pair
    xs = take count (drop first ps)

    by_found : (o : Option ℕ) → position test xs ≡ o → option_map (λ k. first + k) o ≡ Some i → (f : ℕ) × (n : ℕ) × (k : ℕ) × (Inner first count ≡ Inner f n) × (k < n) × (i ≡ f + k)
    by_found None is e = cc
    by_found (Some k) is e =
        let at = position-Some test xs k open_pair is in
        let low : k < count = let l = length-take count (drop first ps) in let a = at.0 in omega arith in
        let same : i ≡ first + k = let g : ◌≡◌ {A = Option ℕ} (Some (first + k)) (Some i) = e in cc in
        (first, count, k, refl, low, same)

module _ (f : Frame) (root : Position) (n : ℕ) (nodes : List Node) (r : AreRooted f root n nodes) where
  pub record IsOn (s : Spot) : Type 0 where
    pub within : s.place < length nodes
    pub there : r.position s.place ≡ s.position

  -- where a child is
  pub record IsBelow (s : Spot) (i : ℕ) : Type 0 where
    pub deeper : s.place < i
    pub on : IsOn (child_spot f.rules nodes s i)
    pub is_legal : (m : Move) → chosen_at nodes i ≡ Some m → Member m (legal f.rules (repeat_of s.position))

  pub child_on : (ps : List Pair) (s : Spot) → IsOn s → (i : ℕ) → best_child_at nodes ps s.place ≡ Some i → IsBelow s i
  child_on ps s on i h = by_node (there_is nodes s.place on.within)
    where
      by_child : (v : Node) (first count k : ℕ) (m : Move) → HasChildren f nodes r.position s.place s.position v first count → slice_get (legal f.rules (repeat_of s.position)) k ≡ Some m → i ≡ first + k → IsBelow s i
      by_child v first count k m c legal_move at =
          let x = c.each k m legal_move in
          let stands : slice_get nodes i ≡ Some x.child = subst (λ j. slice_get nodes j ≡ Some x.child) (sym at) x.stands in
          let chosen : chosen_at nodes i ≡ Some m = ap (option_and_then (λ (v : Node). v.chosen)) stands ∙ x.chosen in
          record {
            deeper = let a = c.after in omega arith;
            on = record {
              within = slice_get_within nodes i x.child stands;
              there = ap r.position at ∙ x.leads ∙ ap (position_after f.rules s.position) (sym chosen);
            };
            is_legal = λ m' e. subst (λ y. Member y (legal f.rules (repeat_of s.position))) (some_same (chosen_at nodes i) m m' chosen e) (listed (legal f.rules (repeat_of s.position)) k m legal_move);
          }

      by_node : (v : Node) × (slice_get nodes s.place ≡ Some v) → IsBelow s i
      by_node (v, stands) =
          let e = ap (option_and_then (best_child ps s.place)) (sym stands) ∙ h in
          let among = found_among v.attacking (own_number v.attacking (pair_at ps s.place)) v.state ps i e in
          let first = among.0 in
          let count = among.1 in
          let k = among.2 in
          let state = subst (λ p. IsStateOf f nodes r.position s.place p v v.state) on.there (r.each s.place v stands).state in
          let c = subst (IsStateOf f nodes r.position s.place s.position v) among.3 state in
          let m = there_is (legal f.rules (repeat_of s.position)) k (let a = c.all in let b = among.4 in omega arith) in
          by_child v first count k m.0 c m.1 among.5

  pub descend-on : (ps : List Pair) (d : ℕ) (s : Spot) → IsOn s → IsOn (descend f.rules nodes ps d s)
  unfolding descend
  descend-on ps zero s on = on
  descend-on ps (suc d) s on = by_child (descend-on ps d) (best_child_at nodes ps s.place) refl
    where
      by_child : ((t : Spot) → IsOn t → IsOn (descend f.rules nodes ps d t)) → (o : Option ℕ) → best_child_at nodes ps s.place ≡ o → IsOn (go_on (descend f.rules nodes ps d) s (option_map (child_spot f.rules nodes s) o))
      by_child more None e = on
      by_child more (Some i) e = more (child_spot f.rules nodes s i) (child_on ps s on i e).on

  pub root-on : IsOn (record { place = 0; position = root })
  root-on = record { within = r.some; there = r.starts }

-- one step, and none
pub descend-step : (f : Frame) (nodes : List Node) (ps : List Pair) (d : ℕ) (s : Spot) (i : ℕ) → best_child_at nodes ps s.place ≡ Some i → descend f.rules nodes ps (suc d) s ≡ descend f.rules nodes ps d (child_spot f.rules nodes s i)
unfolding descend
descend-step f nodes ps d s i e = ap (λ o. go_on (descend f.rules nodes ps d) s (option_map (child_spot f.rules nodes s) o)) e

pub descend-stop : (f : Frame) (nodes : List Node) (ps : List Pair) (d : ℕ) (s : Spot) → best_child_at nodes ps s.place ≡ None → descend f.rules nodes ps d s ≡ s
unfolding descend
descend-stop f nodes ps zero s e = refl
descend-stop f nodes ps (suc d) s e = ap (λ o. go_on (descend f.rules nodes ps d) s (option_map (child_spot f.rules nodes s) o)) e

-- ---- the best child, as it is read

module _ (nodes : List Node) (ps : List Pair) (at : ℕ) (v : Node) (stands : slice_get nodes at ≡ Some v) where
  pub best-found : (first count number : ℕ) (xs : List Pair) (o : Option ℕ) → v.state ≡ Inner first count → at < length ps → number ≡ own_number v.attacking (get_or ps at no_pair) → xs ≡ take count (drop first ps) → o ≡ position (λ c. own_number v.attacking c == number) xs → option_map (λ k. first + k) o ≡ best_child_at nodes ps at
  best-found first count number xs o state within is part found =
      let same : number ≡ own_number v.attacking (pair_at ps at) = is ∙ ap (own_number v.attacking) (get_or_default ps at no_pair open_pair within) in
      ap (option_map (λ k. first + k)) found
      ∙ ap (λ k. option_map (λ j. first + j) (position (λ c. own_number v.attacking c == k) xs)) same
      ∙ ap (λ ys. option_map (λ j. first + j) (position (λ c. own_number v.attacking c == own_number v.attacking (pair_at ps at)) ys)) part
      ∙ ap (λ s. option_map (λ k. first_child s + k) (position (λ c. own_number v.attacking c == own_number v.attacking (pair_at ps at)) (of_children s ps))) (sym state)
      ∙ ap (option_and_then (best_child ps at)) (sym stands)

  pub best-none : ((first count : ℕ) → v.state ≡ Inner first count → ⊥) → ◌≡◌ {A = Option ℕ} None (best_child_at nodes ps at)
  best-none none = by_state v.state none ∙ ap (option_and_then (best_child ps at)) (sym stands)
    where
      by_state : (s : State) → ((first count : ℕ) → s ≡ Inner first count → ⊥) → ◌≡◌ {A = Option ℕ} None (option_map (λ k. first_child s + k) (position (λ c. own_number v.attacking c == own_number v.attacking (pair_at ps at)) (of_children s ps)))
      by_state Open h = refl
      by_state Won h = refl
      by_state Lost h = refl
      by_state (Inner first count) h = absurd (h first count refl)
