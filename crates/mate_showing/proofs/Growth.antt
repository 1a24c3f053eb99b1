-- How a table grows: a node comes in at its place, in place of one of a higher rank or behind all.
use Rattle.std.proofs.Common.{◌≡◌, ◌⊎◌, inl, inr, ℕ, zero, suc, ◌+◌, ◌-◌, ◌<◌, ◌≤◌, List, [], ◌∷◌, ◌++◌, length, Bool, true, false, not, ◌||◌, ◌==◌, Option, Some, None, slice_get, min, refl, ap, sym, ◌∙◌, subst, arith, if◌then◌else◌}
use Rattle.std.specs.Prelude.{slice_set}
use Rattle.rules_model.specs.declared.board.Position.{Position}
use Rattle.rules_model.specs.declared.board.Repeat.{Repeat}
use Rattle.rules_model.specs.declared.moves.Move.{Move}
use Rattle.foundation.specs.Member.{Member}
use Rattle.forced_wins.specs.Games.{Game, GameLaws, run_out}
use Rattle.forced_wins.proofs.Counts.{by_cases, eq_from, and_true}
use Rattle.std.proofs.lemmas.Bool.Decides.{nat_tests}
use Rattle.forced_wins.proofs.TableLaws.{both}
use Rattle.strategy.specs.declared.nodes.Node.{Node}
use Rattle.strategy.specs.declared.nodes.Edge.{Edge}
use Rattle.mate_showing.specs.declared.plan.StrategyPlan.{StrategyPlan}
use Rattle.mate_settle.specs.Lines.{plies}
use Rattle.mate_showing.specs.Reached.{OnLine}
use Rattle.mate_fact.specs.InFrame.{left_after}
use Rattle.mate_showing.specs.Tables.{has_key, highest, most, IsNext, Stands, IsLed, AreEdges, IsRow, IsSound, Grows}

eq_to : (m n : ℕ) → m ≡ n → (m == n) ≡ true
eq_to m n h = grind (arith, nat_tests)

-- ---- lists

set_here : {X : Type 0} (xs : List X) (k : ℕ) (v : X) → k < length xs → slice_get (slice_set xs k v) k ≡ Some v
set_here [] k v h = absurd (omega arith)
set_here (x ∷ xs) zero v h = refl
set_here (x ∷ xs) (suc k) v h = set_here xs k v (omega arith)

set_there : {X : Type 0} (xs : List X) (k j : ℕ) (v : X) → (j ≡ k → ⊥) → slice_get (slice_set xs k v) j ≡ slice_get xs j
set_there [] k j v n = refl
set_there (x ∷ xs) zero zero v n = absurd (n refl)
set_there (x ∷ xs) zero (suc j) v n = refl
set_there (x ∷ xs) (suc k) zero v n = refl
set_there (x ∷ xs) (suc k) (suc j) v n = set_there xs k j v (λ e. n (ap suc e))

push_here : {X : Type 0} (xs : List X) (v : X) → slice_get (xs ++ v ∷ []) (length xs) ≡ Some v
push_here [] v = refl
push_here (x ∷ xs) v = push_here xs v

push_there : {X : Type 0} (xs : List X) (v : X) (j : ℕ) → (j ≡ length xs → ⊥) → slice_get (xs ++ v ∷ []) j ≡ slice_get xs j
push_there [] v zero n = absurd (n refl)
push_there [] v (suc j) n = refl
push_there (x ∷ xs) v zero n = refl
push_there (x ∷ xs) v (suc j) n = push_there xs v j (λ e. n (ap suc e))

pub within : {X : Type 0} (xs : List X) (i : ℕ) (v : X) → slice_get xs i ≡ Some v → i < length xs
within [] i v h = cc
within (x ∷ xs) zero v h = omega arith
within (x ∷ xs) (suc i) v h = let k = within xs i v h in omega arith

pub there_is : {X : Type 0} (xs : List X) (i : ℕ) → i < length xs → (v : X) × (slice_get xs i ≡ Some v)
there_is [] i h = absurd (omega arith)
there_is (x ∷ xs) zero h = (x, refl)
there_is (x ∷ xs) (suc i) h = there_is xs i (omega arith)

pub equal_or : {C : Type 0} (i j : ℕ) → (i ≡ j → C) → ((i ≡ j → ⊥) → C) → C
equal_or {C = C} i j f g = by_cases (i == j) (λ e. f (eq_from i j e)) (λ e. g (λ k. (let t = eq_to i j k in cc)))

pub one_of : {X : Type 0} (o : Option X) (v w : X) → o ≡ Some v → o ≡ Some w → w ≡ v
one_of o v w a b = cc

-- v stands at the place k, and every other place is as before
pub record IsPut {X : Type 0} (s : List X) (k : ℕ) (v : X) (t : List X) : Type 0 where
  pub here : slice_get t k ≡ Some v
  pub there : (j : ℕ) → (j ≡ k → ⊥) → slice_get t j ≡ slice_get s j

pub set-put : {X : Type 0} (s : List X) (k : ℕ) (v : X) → k < length s → IsPut s k v (slice_set s k v)
set-put s k v h = record { here = set_here s k v h; there = λ j n. set_there s k j v n }

pub push-put : {X : Type 0} (s : List X) (k : ℕ) (v : X) → length s ≡ k → IsPut s k v (s ++ v ∷ [])
push-put s k v h = record {
  here = subst (λ i. slice_get (s ++ v ∷ []) i ≡ Some v) h (push_here s v);
  there = λ j n. push_there s v j (λ e. n (e ∙ h));
}

pub put_either : {X : Type 0} (s : List X) (k : ℕ) (v : X) (t : List X) → k ≤ length s → (length s ≡ k → t ≡ s ++ v ∷ []) → (k < length s → t ≡ slice_set s k v) → IsPut s k v t
put_either s k v t h f g = cases (order k (length s) h)
  where
    order : (k n : ℕ) → k ≤ n → (n ≡ k) ⊎ (k < n)
    order k n h = grind arith

    cases : (length s ≡ k) ⊎ (k < length s) → IsPut s k v t
    cases (inl e) = subst (IsPut s k v) (sym (f e)) (push-put s k v e)
    cases (inr o) = subst (IsPut s k v) (sym (g o)) (set-put s k v o)

module _ (r : Game Position Repeat Move) (l : GameLaws Position Repeat Move r) where
  -- ---- keys

  key_counts : (exact : Bool) (a b : ℕ) → (not exact || (a == b)) ≡ true → exact ≡ true → a ≡ b
  key_counts true a b h e = eq_from a b h
  key_counts false a b h e = cc

  counts_key : (exact : Bool) (a b : ℕ) → (exact ≡ true → a ≡ b) → (not exact || (a == b)) ≡ true
  counts_key true a b f = eq_to a b (f refl)
  counts_key false a b f = refl

  pub key-true : (exact : Bool) (p : Position) (v : Node) → has_key r exact p v ≡ true → (r.repeat v.position ≡ r.repeat p) × (exact ≡ true → r.counter v.position ≡ r.counter p)
  key-true exact p v h = let k = both _ _ h in ((l.decides _ _).0 k.0, key_counts exact _ _ k.1)

  pub key-false : (exact : Bool) (p : Position) (v : Node) → has_key r exact p v ≡ false → r.repeat v.position ≡ r.repeat p → (exact ≡ true → r.counter v.position ≡ r.counter p) → ⊥
  key-false exact p v h e f = let t = and_true _ _ ((l.decides (r.repeat v.position) (r.repeat p)).1 e) (counts_key exact (r.counter v.position) (r.counter p) f) in cc

  -- ---- what stands still stands

  pub stands-grows : (exact : Bool) (s t : List Node) (p : Position) (k i : ℕ) → k ≤ most → Grows r exact s t → Stands r exact s p k i → Stands r exact t p k i
  stands-grows exact s t p k i h f x =
      let low = x.low in
      let y = f i x.node x.at (omega arith) in
      let less = y.low in
      record { node = y.node; at = y.at; repeat = y.repeat ∙ x.repeat; counter = λ e. y.counter e ∙ x.counter e; low = omega arith }

  pub grows-none : (exact : Bool) (s : List Node) → Grows r exact s s
  grows-none exact s = λ i v h m. record { node = v; at = h; repeat = refl; counter = λ e. refl; low = omega arith }

  pub grows-on : (exact : Bool) (s t u : List Node) → Grows r exact s t → Grows r exact t u → Grows r exact s u
  grows-on exact s t u f g = λ i v h m. stands-grows exact t u v.position v.rank i m g (f i v h m)

  behind_most : (a : Bool) (n : ℕ) → n ≤ most → left_after a n ≤ most
  behind_most true n h = omega arith
  behind_most false n h = h

  pub led-grows : (exact : Bool) (s t : List Node) (p : Position) (n : ℕ) (e : Edge) → n ≤ most → Grows r exact s t → IsLed r exact s p n e → IsLed r exact t p n e
  led-grows exact s t p n e h f x = record { legal = x.legal; stands = stands-grows exact s t (r.next p e.chosen) (left_after (r.attacking p) n) e.to (behind_most (r.attacking p) n h) f x.stands }

  pub edges-grow : (exact : Bool) (s t : List Node) (p : Position) (n : ℕ) (es : List Edge) (o : Option Bool) (a : Bool) → n ≤ most → Grows r exact s t → AreEdges r exact s p n es o a → AreEdges r exact t p n es o a
  edges-grow exact s t p n es (Some w) a h f x = x
  edges-grow exact s t p n es None true h f x = (x.0, (x.1.0, x.1.1, led-grows exact s t p n x.1.0 h f x.1.2))
  edges-grow exact s t p n es None false h f x = (x.0, λ e k. led-grows exact s t p n e h f (x.1 e k))

  row-grows : (plan : StrategyPlan) (s t : List Node) (v : Node) → v.rank ≤ most → Grows r plan.exact s t → IsRow r plan s v → IsRow r plan t v
  row-grows plan s t v h f x = record { edges = edges-grow plan.exact s t v.position v.rank v.edges (r.own v.position) (r.attacking v.position) h f x.edges; counted = x.counted; count = x.count }

  -- ---- a position with the same key needs the same edges

  next-counter : (p q : Position) (m : Move) → r.repeat p ≡ r.repeat q → r.counter p ≡ r.counter q → r.counter (r.next p m) ≡ r.counter (r.next q m)
  next-counter p q m e h = let a = l.lower p q m e (omega arith) in let b = l.lower q p m (sym e) (omega arith) in omega arith

  led-same : (exact : Bool) (s : List Node) (p q : Position) (n : ℕ) (e : Edge) → r.repeat q ≡ r.repeat p → (exact ≡ true → r.counter q ≡ r.counter p) → IsLed r exact s p n e → IsLed r exact s q n e
  led-same exact s p q n e same count x =
      let y = x.stands in
      record {
        legal = subst (Member e.chosen) (l.same_legal p q (sym same)) x.legal;
        stands = record {
          node = y.node;
          at = y.at;
          repeat = y.repeat ∙ l.same_next p q e.chosen (sym same);
          counter = λ z. y.counter z ∙ next-counter p q e.chosen (sym same) (sym (count z));
          low = subst (λ a. y.node.rank ≤ left_after a n) (l.same_turn p q (sym same)) y.low;
        };
      }

  edges-same : (exact : Bool) (s : List Node) (p q : Position) (n : ℕ) (es : List Edge) (o : Option Bool) (a : Bool) → r.repeat q ≡ r.repeat p → (exact ≡ true → r.counter q ≡ r.counter p) → AreEdges r exact s p n es o a → AreEdges r exact s q n es o a
  edges-same exact s p q n es (Some w) a e f x = x
  edges-same exact s p q n es None true e f x = (x.0, (x.1.0, x.1.1, led-same exact s p q n x.1.0 e f x.1.2))
  edges-same exact s p q n es None false e f x = (x.0 ∙ l.same_legal p q (sym e), λ y k. led-same exact s p q n y e f (x.1 y k))

  -- ---- a node comes in

  module _ (barred : Repeat → Bool) (plan : StrategyPlan) (s t : List Node) (k : ℕ) (v : Node) (p : Position) (n : ℕ) (small : n ≤ most) (next : IsNext r barred plan n p) (es : AreEdges r plan.exact s p n v.edges (r.own p) (r.attacking p)) (same : r.repeat v.position ≡ r.repeat p) (counter : plan.exact ≡ true → r.counter v.position ≡ r.counter p) (count : plan.exact ≡ false → r.counter v.position ≡ min highest (plan.room - plies r n p)) (rank : v.rank ≡ n) (at : IsPut s k v t) (here : (u : Node) → slice_get s k ≡ Some u → (has_key r plan.exact p u ≡ true) × (n < u.rank)) (before : (j : ℕ) (u : Node) → j < k → slice_get s j ≡ Some u → has_key r plan.exact p u ≡ false) (end : k ≤ length s) (sound : IsSound r barred plan s) where
    put-grows : Grows r plan.exact s t
    put-grows = λ i u h m. equal_or i k
        (λ e. let o = here u (subst (λ z. slice_get s z ≡ Some u) e h) in
        let key = key-true plan.exact p u o.0 in
        let less = o.1 in
        record { node = v; at = subst (λ z. slice_get t z ≡ Some v) (sym e) at.here; repeat = same ∙ sym key.0; counter = λ z. counter z ∙ sym (key.1 z); low = omega arith })
        (λ d. record { node = u; at = at.there i d ∙ h; repeat = refl; counter = λ e. refl; low = omega arith })

    put-stands : Stands r plan.exact t p n k
    put-stands = record { node = v; at = at.here; repeat = same; counter = counter; low = omega arith }

    -- only the place k has the key
    alone : (j : ℕ) (u : Node) → slice_get s j ≡ Some u → r.repeat u.position ≡ r.repeat p → (plan.exact ≡ true → r.counter u.position ≡ r.counter p) → j ≡ k
    alone j u h e f = later j u h e f (by_order j k)
      where
        by_order : (j k : ℕ) → (j < k) ⊎ (k ≤ j)
        by_order j k = grind arith

        later : (j : ℕ) (u : Node) → slice_get s j ≡ Some u → r.repeat u.position ≡ r.repeat p → (plan.exact ≡ true → r.counter u.position ≡ r.counter p) → (j < k) ⊎ (k ≤ j) → j ≡ k
        later j u h e f (inl o) = absurd (key-false plan.exact p u (before j u o h) e f)
        later j u h e f (inr o) =
            let w = within s j u h in
            let x = there_is s k (omega arith) in
            let key = key-true plan.exact p x.0 (here x.0 x.1).0 in
            sound.apart j k u x.0 h x.1 (e ∙ sym key.0) (λ z. f z ∙ sym (key.1 z))

    from : {C : Type 0} (j : ℕ) (u : Node) → slice_get t j ≡ Some u → (j ≡ k → u ≡ v → C) → ((j ≡ k → ⊥) → slice_get s j ≡ Some u → C) → C
    from j u h f g = equal_or j k (λ e. f e (one_of (slice_get t k) v u at.here (subst (λ z. slice_get t z ≡ Some u) e h))) (λ d. g d (sym (at.there j d) ∙ h))

    own-v : r.own v.position ≡ r.own p
    own-v = l.same_own v.position p same

    turn-v : r.attacking v.position ≡ r.attacking p
    turn-v = l.same_turn v.position p same

    plies-v : plies r v.rank v.position ≡ plies r n p
    plies-v = (λ i. if turn-v i then rank i + rank i else rank i + rank i + 1)

    row : IsRow r plan s v
    row = record {
      edges = subst (λ z. AreEdges r plan.exact s v.position z v.edges (r.own v.position) (r.attacking v.position)) (sym rank)
          (subst (λ o. AreEdges r plan.exact s v.position n v.edges o (r.attacking v.position)) (sym own-v)
          (subst (λ a. AreEdges r plan.exact s v.position n v.edges (r.own p) a) (sym turn-v)
          (edges-same plan.exact s p v.position n v.edges (r.own p) (r.attacking p) same counter es)));
      counted = λ e z. ap (run_out r) (counter z) ∙ next.goes_on.counted (sym own-v ∙ e);
      count = λ e. (count e ∙ ap (λ y. min highest (plan.room - y)) (sym plies-v), (let h = next.room e in let q = plies-v in omega arith));
    }

    root-same : (u : Node) → slice_get s 0 ≡ Some u → r.repeat u.position ≡ r.repeat plan.root → (plan.exact ≡ true → r.counter u.position ≡ r.counter plan.root) → (w : Node) × (slice_get t 0 ≡ Some w) × (r.repeat w.position ≡ r.repeat plan.root) × (plan.exact ≡ true → r.counter w.position ≡ r.counter plan.root)
    root-same u h e f = equal_or 0 k
        (λ z. let o = here u (subst (λ y. slice_get s y ≡ Some u) z h) in
        let key = key-true plan.exact p u o.0 in
        (v, subst (λ y. slice_get t y ≡ Some v) (sym z) at.here, same ∙ sym key.0 ∙ e, λ x. counter x ∙ sym (key.1 x) ∙ f x))
        (λ d. (u, at.there 0 d ∙ h, e, f))

    not_root : (i : ℕ) → suc i ≡ k → p ≡ plan.root → ⊥
    not_root i e z =
        let u = sound.root in
        let k0 = alone 0 u.0 u.1 (u.2 ∙ ap r.repeat (sym z)) (λ x. u.3 x ∙ ap r.counter (sym z)) in omega arith

    is_free : (i : ℕ) → suc i ≡ k → r.own p ≡ None → barred (r.repeat p) ≡ false
    is_free i e o = cases next.free
      where
        cases : ((r.own p ≡ None → barred (r.repeat p) ≡ false) × (r.own plan.root ≡ None)) ⊎ (p ≡ plan.root) → barred (r.repeat p) ≡ false
        cases (inl f) = f.0 o
        cases (inr z) = absurd (not_root i e z)

    is_ongoing : (i : ℕ) → suc i ≡ k → r.own plan.root ≡ None
    is_ongoing i e = cases next.free
      where
        cases : ((r.own p ≡ None → barred (r.repeat p) ≡ false) × (r.own plan.root ≡ None)) ⊎ (p ≡ plan.root) → r.own plan.root ≡ None
        cases (inl f) = f.1
        cases (inr z) = absurd (not_root i e z)

    on_line : plan.exact ≡ true → OnLine r barred plan.whole plan.root (r.repeat v.position) (r.counter v.position)
    on_line e =
        let x = next.reached in
        let short = x.short in
        record { line = x.line; short = omega arith; won = x.won; repeat = ap r.repeat x.leads ∙ sym same; counter = ap r.counter x.leads ∙ sym (counter e) }

    pub put-sound : IsSound r barred plan t
    put-sound = record {
      root = let u = sound.root in root-same u.0 u.1 u.2 u.3;
      done = λ i u h. from (suc i) u h (λ e f. subst (λ (z : Node). z.rank ≤ most) (sym f) (subst (λ z. z ≤ most) (sym rank) small)) (λ d o. sound.done i u o);
      rows = λ i u h m. from i u h
          (λ e f. subst (λ z. IsRow r plan t z) (sym f) (row-grows plan s t v (subst (λ z. z ≤ most) (sym rank) small) put-grows row))
          (λ d o. row-grows plan s t u m put-grows (sound.rows i u o m));
      free = λ i u h o. from (suc i) u h
          (λ e f. subst (λ (z : Node). barred (r.repeat z.position) ≡ false) (sym f) (ap barred same ∙ is_free i e (sym own-v ∙ sym (ap (λ (z : Node). r.own z.position) f) ∙ o)))
          (λ d x. sound.free i u x o);
      ongoing = λ i u h. from (suc i) u h (λ e f. is_ongoing i e) (λ d x. sound.ongoing i u x);
      lines = λ z i u h. from i u h (λ e f. subst (λ (y : Node). OnLine r barred plan.whole plan.root (r.repeat y.position) (r.counter y.position)) (sym f) (on_line z)) (λ d o. sound.lines z i u o);
      apart = λ i j u w a b e f. from i u a
          (λ x y. from j w b (λ z q. x ∙ sym z) (λ d o. x ∙ sym (alone j w o (sym e ∙ ap (λ (z : Node). r.repeat z.position) y ∙ same) (λ z. sym (f z) ∙ ap (λ (z : Node). r.counter z.position) y ∙ counter z))))
          (λ d o. from j w b (λ z q. alone i u o (e ∙ ap (λ (z : Node). r.repeat z.position) q ∙ same) (λ x. f x ∙ ap (λ (z : Node). r.counter z.position) q ∙ counter x) ∙ sym z) (λ d2 o2. sound.apart i j u w o o2 e f));
    }

  pub record IsPutWell (barred : Repeat → Bool) (plan : StrategyPlan) (s t : List Node) (p : Position) (n k : ℕ) : Type 0 where
    pub sound : IsSound r barred plan t
    pub grows : Grows r plan.exact s t
    pub stands : Stands r plan.exact t p n k

  pub put-well : (barred : Repeat → Bool) (plan : StrategyPlan) (s t : List Node) (k : ℕ) (v : Node) (p : Position) (n : ℕ) → n ≤ most → IsNext r barred plan n p → AreEdges r plan.exact s p n v.edges (r.own p) (r.attacking p) → r.repeat v.position ≡ r.repeat p → (plan.exact ≡ true → r.counter v.position ≡ r.counter p) → (plan.exact ≡ false → r.counter v.position ≡ min highest (plan.room - plies r n p)) → v.rank ≡ n → IsPut s k v t → ((u : Node) → slice_get s k ≡ Some u → (has_key r plan.exact p u ≡ true) × (n < u.rank)) → ((j : ℕ) (u : Node) → j < k → slice_get s j ≡ Some u → has_key r plan.exact p u ≡ false) → k ≤ length s → IsSound r barred plan s → IsPutWell barred plan s t p n k
  put-well barred plan s t k v p n a b c d e f g h i j m o = record {
    sound = put-sound barred plan s t k v p n a b c d e f g h i j m o;
    grows = put-grows barred plan s t k v p n a b c d e f g h i j m o;
    stands = put-stands barred plan s t k v p n a b c d e f g h i j m o;
  }

  -- the node that is found at the place
  pub found-stands : (exact : Bool) (s : List Node) (p : Position) (n k : ℕ) (v : Node) → slice_get s k ≡ Some v → v.rank ≤ n → has_key r exact p v ≡ true → Stands r exact s p n k
  found-stands exact s p n k v h m e = let key = key-true exact p v e in record { node = v; at = h; repeat = key.0; counter = key.1; low = m }
