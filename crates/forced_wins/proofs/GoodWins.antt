-- A good strategy wins.
use Rattle.std.proofs.Common.{◌≡◌, ◌⊎◌, inl, inr, ℕ, zero, suc, ◌+◌, ◌<◌, ◌≤◌, List, [], ◌∷◌, ◌++◌, Bool, true, false, Option, Some, None, cond, not, nat_le, nat_lt, ◌&&◌, ◌||◌, if◌then◌else◌, slice_get, refl, ap, sym, ◌∙◌, subst, arith}
use Rattle.std.specs.List.{list_any, list_all, count_by}
use Rattle.std.proofs.lemmas.Bool.Decides.{nat_tests}
use Rattle.std.proofs.lemmas.List.Sums.{sum_by-cons}
use Rattle.foundation.specs.Member.{Member}
use Rattle.forced_wins.specs.Contests.{decided, within}
use Rattle.forced_wins.specs.Games.{Game, GameLaws, Story, history, times, run_out, repeated, plus, lost_if, or_end, of_games, wins}
use Rattle.forced_wins.specs.Tables.{Accessors, nodes_of, fits_rank, root_fits, IsFaultless, AreFaultless}
use Rattle.forced_wins.proofs.ContestLaws.{any_intro, all_intro, double, double-is, forced-attacking, forced-other}
use Rattle.forced_wins.proofs.Counts.{by_cases, tests_none, tests_less, times_here, times_other, and_true, le_true, own_cases}
use Rattle.forced_wins.proofs.NearLaws.{of_games-turns}
use Rattle.forced_wins.proofs.TableLaws.{both, led, lt_from, le_from, Edged, won-at, not_counted-at, attack-at, defence-at, few-at, start-at}

cond_mono : (a b : Bool) → (a ≡ true → b ≡ true) → cond a 1 0 ≤ cond b 1 0
cond_mono true true f = omega arith
cond_mono true false f = let e = f refl in cc
cond_mono false b f = omega arith

module _ {X : Type 0} (f h : X → Bool) (sub : (x : X) → f x ≡ true → h x ≡ true) where
  pub count_mono : (xs : List X) → count_by f xs ≤ count_by h xs
  count_mono [] = omega arith
  count_mono (x ∷ xs) =
      let a = sum_by-cons (λ y. cond (f y) 1 0) x xs in
      let b = sum_by-cons (λ y. cond (h y) 1 0) x xs in
      let c = cond_mono (f x) (h x) (sub x) in
      let d = count_mono xs in omega arith

  pub count_more : (xs : List X) (j : ℕ) (x : X) → slice_get xs j ≡ Some x → f x ≡ false → h x ≡ true → count_by f xs + 1 ≤ count_by h xs
  count_more [] j x is none more = cc
  count_more (y ∷ xs) zero x is none more =
      let e : y ≡ x = cc in
      let a = sum_by-cons (λ y. cond (f y) 1 0) y xs in
      let b = sum_by-cons (λ y. cond (h y) 1 0) y xs in
      let c : ◌≡◌ {A = ℕ} (cond (f y) 1 0) 0 = ap (λ u. cond u 1 0) (ap f e ∙ none) in
      let k : ◌≡◌ {A = ℕ} (cond (h y) 1 0) 1 = ap (λ u. cond u 1 0) (ap h e ∙ more) in
      let d = count_mono xs in omega arith
  count_more (y ∷ xs) (suc j) x is none more =
      let a = sum_by-cons (λ y. cond (f y) 1 0) y xs in
      let b = sum_by-cons (λ y. cond (h y) 1 0) y xs in
      let c = cond_mono (f y) (h y) (sub y) in
      let d = count_more xs j x is none more in omega arith

and_left : (a b : Bool) → (a && b) ≡ true → a ≡ true
and_left a b h = grind arith

and_false : (a b : Bool) → b ≡ false → (a && b) ≡ false
and_false a b h = grind arith

le_false : (m n : ℕ) → n < m → nat_le m n ≡ false
le_false m n h = grind (arith, nat_tests)

and_lower : (a : Bool) (v w n : ℕ) → w ≤ v → (a && nat_le v n) ≡ true → (a && nat_le w n) ≡ true
and_lower a v w n h e = grind (arith, nat_tests)

-- an ended state that is won, and an ongoing one that passes
won_end : (o e : Option Bool) (w t : Bool) → o ≡ Some w → w ≡ true → decided (or_end o e) t ≡ true
won_end o e w t h k = rw (h, k)

ongoing : (o : Option Bool) (y z t : Bool) → o ≡ None → y ≡ false → z ≡ false → t ≡ true → decided (or_end o (lost_if (y || z))) t ≡ true
ongoing o y z t h k m f = rw (h, k, m, f)

lt_zero : (j : ℕ) → nat_lt 0 (suc j) ≡ true
lt_zero j = grind (arith, nat_tests)

double-less : (a b : ℕ) → a < b → suc (double a) < double b
double-less a b h = let e = double-is a in let f = double-is b in omega arith

double-le : (a b : ℕ) → a ≤ b → double a ≤ double b
double-le a b h = let e = double-is a in let f = double-is b in omega arith

none_or : (a x : ℕ) → (0 < a → x < a) → (a ≡ 0) ⊎ (x < a)
none_or zero x f = inl refl
none_or (suc a) x f = inr (f (omega arith))

transport_member : {X : Type 0} (m : X) (xs ys : List X) → xs ≡ ys → Member m xs → Member m ys
transport_member m xs ys e k = subst (λ zs. Member m zs) e k

module _ {P R M N E : Type 0} (r : Game P R M) (tb : Accessors P M N E) (l : GameLaws P R M r) where
  -- how many moves of both sides a node still has
  unfoldable weight : N → ℕ
  weight v = cond (r.attacking (tb.position v)) (double (tb.rank v)) (suc (double (tb.rank v)))

  weight-attacking : (v : N) → r.attacking (tb.position v) ≡ true → weight v ≡ double (tb.rank v)
  unfolding weight
  weight-attacking v e = rw e

  weight-other : (v : N) → r.attacking (tb.position v) ≡ false → weight v ≡ suc (double (tb.rank v))
  unfolding weight
  weight-other v e = rw e

  -- how many nodes have the repeat and at least the weight
  unfoldable heavy : R → ℕ → List N → ℕ
  heavy x w s = count_by (λ u. r.same (r.repeat (tb.position u)) x && nat_le w (weight u)) s

  heavy-nodes : (x : R) (w : ℕ) (s : List N) → heavy x w s ≤ nodes_of r tb x s
  unfolding heavy nodes_of
  heavy-nodes x w s = count_mono _ _ (λ u. and_left (r.same (r.repeat (tb.position u)) x) (nat_le w (weight u))) s

  heavy-mono : (x : R) (v w : ℕ) (s : List N) → w ≤ v → heavy x v s ≤ heavy x w s
  unfolding heavy
  heavy-mono x v w s h = count_mono _ _ (λ u. and_lower (r.same (r.repeat (tb.position u)) x) v w (weight u) h) s

  heavy-more : (x : R) (v : ℕ) (w : N) (s : List N) (j : ℕ) → slice_get s j ≡ Some w → weight w < v → r.repeat (tb.position w) ≡ x → heavy x v s + 1 ≤ heavy x (weight w) s
  unfolding heavy
  heavy-more x v w s j is h e =
      count_more _ _ (λ u. and_lower (r.same (r.repeat (tb.position u)) x) v (weight w) (weight u) (omega arith)) s j w is
      (and_false (r.same (r.repeat (tb.position w)) x) (nat_le v (weight w)) (le_false v (weight w) h))
      (and_true (r.same (r.repeat (tb.position w)) x) (nat_le (weight w) (weight w)) ((l.decides (r.repeat (tb.position w)) x).1 e) (le_true (weight w) (weight w) (omega arith)))

  -- the node of the root
  pub record Root (s : List N) (g : Story P) (n : ℕ) : Type 0 where
    pub node : N
    pub stands : slice_get s 0 ≡ Some node
    pub same : r.repeat (tb.position node) ≡ r.repeat g.last
    pub covers : r.counter g.last ≤ r.counter (tb.position node)
    pub rank : (tb.rank node) ≤ n

  root_of : (s : List N) (g : Story P) (n : ℕ) → root_fits r tb s g n ≡ true → Root s g n
  unfolding root_fits
  root_of s g n h =
      let w = led (slice_get s 0) _ h in
      let a = both _ _ w.2 in
      let b = both _ _ a.1 in
      record { node = w.0; stands = w.1; same = (l.decides (r.repeat (tb.position w.0)) (r.repeat g.last)).0 a.0; covers = le_from _ _ b.0; rank = le_from _ _ b.1 }

  module _ (s : List N) (g : Story P) (n : ℕ) (root : Root s g n) (nodes : (i : ℕ) (v : N) → slice_get s i ≡ Some v → IsFaultless P R M N E r tb s g i v) where
    -- the table speaks for the game `h` at the node `v`
    record At (h : Story P) (i : ℕ) (v : N) : Type 0 where
      pub stands : slice_get s i ≡ Some v
      pub same : r.repeat (tb.position v) ≡ r.repeat h.last
      pub covers : r.counter h.last ≤ r.counter (tb.position v)
      pub falls : weight v ≤ weight root.node
      pub once : r.own h.last ≡ None → repeated r h ≡ false
      pub few : (x : R) → times r x (history h) ≤ times r x (history g) + heavy x (weight v) s

    repeats_less : (h : Story P) (i j : ℕ) (v w : N) → At h i v → (p : P) → slice_get s j ≡ Some w → r.repeat (tb.position w) ≡ r.repeat p → weight w < weight v → (x : R) → times r x (history h ++ p ∷ []) ≤ times r x (history g) + heavy x (weight w) s
    repeats_less h i j v w a p is e less x =
        let f = a.few x in
        by_cases (r.same (r.repeat p) x)
        (λ y. let q = (l.decides (r.repeat p) x).0 y in
        let u = times_here r l x p (history h) q in
        let k = heavy-more x (weight v) w s j is less (e ∙ q) in omega arith)
        (λ y. let u = times_other r l x p (history h) (λ q. let z = (l.decides (r.repeat p) x).1 q in cc) in
        let k = heavy-mono x (weight v) (weight w) s (omega arith) in omega arith)

    -- a node behind the root stands few times
    rarely : (h : Story P) (j : ℕ) (w : N) → slice_get s j ≡ Some w → weight w < weight root.node → r.repeat (tb.position w) ≡ r.repeat h.last → ((x : R) → times r x (history h) ≤ times r x (history g) + heavy x (weight w) s) → repeated r h ≡ false
    unfolding repeated
    rarely h zero w is less e few = let k : w ≡ root.node = let u = root.stands in cc in let z = ap weight k in absurd (omega arith)
    rarely h (suc j) w is less e few =
        let k = few (r.repeat (tb.position w)) in
        let u = heavy-nodes (r.repeat (tb.position w)) (weight w) s in
        let z = ap (λ x. times r x (history h)) e in
        tests_none r.fold (times r (r.repeat h.last) (history h)) (none_or r.fold _ (λ q. let y = few-at r tb l s g (suc j) w (nodes (suc j) w is) (lt_zero j) q in omega arith))

    next_at : (h : Story P) (i : ℕ) (v : N) (m : M) (a : At h i v) (e : Edged r tb l s g v m) → weight e.node < weight v → At (plus r h m) e.to e.node
    next_at h i v m a e less =
        let same : r.repeat (tb.position e.node) ≡ r.repeat (r.next h.last m) = e.same ∙ l.same_next (tb.position v) h.last m a.same in
        let c = l.lower h.last (tb.position v) m (sym a.same) a.covers in
        let low = e.covers in
        let down = a.falls in
        let few = repeats_less h i e.to v e.node a (r.next h.last m) e.stands same less in
        record {
          stands = e.stands;
          same = same;
          covers = omega arith;
          falls = omega arith;
          once = λ _. rarely (plus r h m) e.to e.node e.stands (omega arith) same few;
          few = few;
        }

    won_here : (h : Story P) (i : ℕ) (v : N) → At h i v → (w : Bool) → r.own h.last ≡ Some w → w ≡ true
    won_here h i v a w e = won-at r tb l s g i v (nodes i v a.stands) w (l.same_own (tb.position v) h.last a.same ∙ e)

    not_counted : (h : Story P) (i : ℕ) (v : N) → At h i v → r.own h.last ≡ None → run_out r (r.counter h.last) ≡ false
    unfolding run_out
    not_counted h i v a e = tests_less r.limit _ _ a.covers (not_counted-at r tb l s g i v (nodes i v a.stands) (l.same_own (tb.position v) h.last a.same ∙ e))

    -- what an attack node leads to
    attack_to : (h : Story P) (i : ℕ) (v : N) → At h i v → r.own h.last ≡ None → r.attacking h.last ≡ true → (m : M) × (e : Edged r tb l s g v m) × (weight e.node < weight v)
    attack_to h i v a e m =
        let attacking = l.same_turn (tb.position v) h.last a.same ∙ m in
        let k = attack-at r tb l s g i v (nodes i v a.stands) (l.same_own (tb.position v) h.last a.same ∙ e) attacking in
        let other : r.attacking (tb.position k.1.node) ≡ false = l.same_turn (tb.position k.1.node) (r.next (tb.position v) k.0) k.1.same ∙ l.turns (tb.position v) k.0 ∙ ap not attacking in
        let falls = lt_from _ _ (sym (ap (λ b. fits_rank b (tb.rank v) (tb.rank k.1.node)) attacking) ∙ k.1.falls) in
        let wv = weight-attacking v attacking in
        let ww = weight-other k.1.node other in
        let d = double-less (tb.rank k.1.node) (tb.rank v) falls in
        (k.0, k.1, omega arith)

    defence_to : (h : Story P) (i : ℕ) (v : N) → At h i v → r.own h.last ≡ None → r.attacking h.last ≡ false → (m : M) → Member m (r.legal h.last) → (e : Edged r tb l s g v m) × (weight e.node < weight v)
    defence_to h i v a e m c is =
        let other = l.same_turn (tb.position v) h.last a.same ∙ m in
        let k = defence-at r tb l s g i v (nodes i v a.stands) (l.same_own (tb.position v) h.last a.same ∙ e) other c (transport_member c _ _ (sym (l.same_legal (tb.position v) h.last a.same)) is) in
        let attacking : r.attacking (tb.position k.node) ≡ true = l.same_turn (tb.position k.node) (r.next (tb.position v) c) k.same ∙ l.turns (tb.position v) c ∙ ap not other in
        let falls = le_from _ _ (sym (ap (λ b. fits_rank b (tb.rank v) (tb.rank k.node)) other) ∙ k.falls) in
        let wv = weight-other v other in
        let ww = weight-attacking k.node attacking in
        let d = double-le (tb.rank k.node) (tb.rank v) falls in
        (k, omega arith)

    no_more : (h : Story P) (i : ℕ) (v : N) → At h i v → weight v ≤ 0 → r.own h.last ≡ None → ⊥
    no_more h i v a low e =
        by_cases (r.attacking h.last)
        (λ m. let k = attack_to h i v a e m in let f = k.2 in omega arith)
        (λ m. let w = weight-other v (l.same_turn (tb.position v) h.last a.same ∙ m) in omega arith)

    attack : (t : ℕ) → ((h : Story P) (i : ℕ) (v : N) → At h i v → weight v ≤ t → within (of_games r) t h ≡ true) →
        (h : Story P) (i : ℕ) (v : N) → At h i v → weight v ≤ suc t → r.own h.last ≡ None → r.attacking h.last ≡ true → list_any (λ m. within (of_games r) t (plus r h m)) (r.legal h.last) ≡ true
    attack t f h i v a low e m =
        let k = attack_to h i v a e m in
        let d = k.2 in
        any_intro _ k.0 (r.legal h.last) (transport_member k.0 _ _ (l.same_legal (tb.position v) h.last a.same) k.1.legal)
        (f (plus r h k.0) k.1.to k.1.node (next_at h i v k.0 a k.1 d) (omega arith))

    defence : (t : ℕ) → ((h : Story P) (i : ℕ) (v : N) → At h i v → weight v ≤ t → within (of_games r) t h ≡ true) →
        (h : Story P) (i : ℕ) (v : N) → At h i v → weight v ≤ suc t → r.own h.last ≡ None → r.attacking h.last ≡ false → list_all (λ m. within (of_games r) t (plus r h m)) (r.legal h.last) ≡ true
    defence t f h i v a low e m =
        all_intro _ (r.legal h.last) (λ c is.
        let k = defence_to h i v a e m c is in
        let d = k.1 in
        f (plus r h c) k.0.to k.0.node (next_at h i v c a k.0 d) (omega arith))

    step : (b u t : Bool) → (b ≡ true → u ≡ true) → (b ≡ false → t ≡ true) → (if b then u else t) ≡ true
    step true u t f k = f refl
    step false u t f k = k refl

    -- a game that the table speaks for is won
    claim : (t : ℕ) (h : Story P) (i : ℕ) (v : N) → At h i v → weight v ≤ t → within (of_games r) t h ≡ true
    unfolding within
    claim zero h i v a low =
        own_cases (r.own h.last)
        (λ w e. won_end (r.own h.last) (lost_if (repeated r h || run_out r (r.counter h.last))) w false e (won_here h i v a w e))
        (λ e. absurd (no_more h i v a low e))
    claim (suc t) h i v a low =
        own_cases (r.own h.last)
        (λ w e. won_end (r.own h.last) (lost_if (repeated r h || run_out r (r.counter h.last))) w _ e (won_here h i v a w e))
        (λ e. ongoing (r.own h.last) (repeated r h) (run_out r (r.counter h.last)) _ e (a.once e) (not_counted h i v a e)
        (step (r.attacking h.last) _ _ (attack t (claim t) h i v a low e) (defence t (claim t) h i v a low e)))

    at_root : At g 0 root.node
    at_root = record {
      stands = root.stands;
      same = root.same;
      covers = root.covers;
      falls = omega arith;
      once = start-at r tb l s g root.node (nodes 0 root.node root.stands);
      few = λ x. omega arith;
    }

    mine_root : r.attacking g.last ≡ true → wins r n g ≡ true
    mine_root e =
        let w = weight-attacking root.node (l.same_turn (tb.position root.node) g.last root.same ∙ e) in
        let d = double-le (tb.rank root.node) n root.rank in
        forced-attacking (of_games r) (of_games-turns r l) n g e ∙ claim (double n) g 0 root.node at_root (omega arith)

    other_root : r.attacking g.last ≡ false → wins r n g ≡ true
    other_root e =
        let w = weight-other root.node (l.same_turn (tb.position root.node) g.last root.same ∙ e) in
        let d = double-le (tb.rank root.node) n root.rank in
        forced-other (of_games r) (of_games-turns r l) n g e ∙ claim (suc (double n)) g 0 root.node at_root (omega arith)

    root-wins : wins r n g ≡ true
    root-wins = by_cases (r.attacking g.last) mine_root other_root

  -- a good strategy wins
  pub good-wins : (s : List N) (g : Story P) (n : ℕ) → AreFaultless P R M N E r tb s g n → wins r n g ≡ true
  good-wins s g n good = root-wins s g n (root_of s g n good.root) good.nodes
