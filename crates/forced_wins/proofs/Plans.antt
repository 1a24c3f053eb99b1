-- What a table must meet to have no fault, in positive words.
use Rattle.std.proofs.Common.{◌≡◌, ◌⊎◌, inl, inr, ℕ, zero, suc, ◌+◌, ◌<◌, ◌≤◌, List, [], ◌∷◌, length, take, Bool, true, false, Option, Some, None, cond, not, nat_le, nat_lt, ◌==◌, ◌&&◌, ◌||◌, slice_get, refl, ap, sym, ◌∙◌, subst, arith}
use Rattle.std.specs.List.{count_by}
use Rattle.std.proofs.lemmas.List.Sums.{sum_by-cons}
use Rattle.foundation.specs.Member.{Member}
use Rattle.forced_wins.specs.Games.{Game, GameLaws, Story, history, times, run_out, repeated}
use Rattle.forced_wins.specs.Tables.{Accessors, nodes_of, node_end, ends_lost, leads, fits_edge, is_doubled, fits_number, wrong_move, has_edge, first_missing, missing_at, missing_reply, fits_rank, bad_rank, bad_counter, stands_often, repeats_at, is_root_again, is_earlier, not_won, is_cut, root_fits, IsFaultless, AreFaultless}
use Rattle.forced_wins.proofs.ContestLaws.{any_intro, all_intro}
use Rattle.forced_wins.proofs.Counts.{by_cases, not_true, own_cases, tests_none, and_true, le_true, eq_from}
use Rattle.forced_wins.proofs.TableLaws.{any_member, both}

or_false : (a b : Bool) → a ≡ false → b ≡ false → (a || b) ≡ false
or_false a b h k = grind arith

led_true : {N : Type 0} (o : Option N) (f : N → Bool) (w : N) → o ≡ Some w → f w ≡ true → leads o f ≡ true
led_true o f w e h = rw (e, h)

led_false : {N : Type 0} (o : Option N) (f : N → Bool) → ((w : N) → o ≡ Some w → f w ≡ false) → leads o f ≡ false
led_false None f h = refl
led_false (Some w) f h = h w refl

taken : {X : Type 0} (i : ℕ) (xs : List X) (x : X) → Member x (take i xs) → (j : ℕ) × (j < i) × (slice_get xs j ≡ Some x)
taken zero xs x k = absurd k
taken (suc i) [] x k = absurd k
taken (suc i) (y ∷ ys) x (inl e) = (0, omega arith, cc)
taken (suc i) (y ∷ ys) x (inr k) = let u = taken i ys x k in let h = u.1 in (suc u.0, omega arith, u.2)

none_pass : {X : Type 0} (f : X → Bool) (xs : List X) → ((j : ℕ) (y : X) → slice_get xs j ≡ Some y → f y ≡ false) → count_by f xs ≡ 0
none_pass f [] h = refl
none_pass f (x ∷ xs) h =
    let e = sum_by-cons (λ y. cond (f y) 1 0) x xs in
    let c : ◌≡◌ {A = ℕ} (cond (f x) 1 0) 0 = ap (λ b. cond b 1 0) (h 0 x refl) in
    let z = none_pass f xs (λ j y a. h (suc j) y a) in omega arith

none_or : (a x : ℕ) → (0 < a → x < a) → (a ≡ 0) ⊎ (x < a)
none_or zero x f = inl refl
none_or (suc a) x f = inr (f (omega arith))

not_cut : {P R M : Type 0} (r : Game P R M) (g : Story P) (o : Option Bool) → (o ≡ None → (repeated r g ≡ false) × (run_out r (r.counter g.last) ≡ false)) → is_cut r o g ≡ false
not_cut r g None f = let u = f refl in or_false _ _ u.0 u.1
not_cut r g (Some w) f = refl

-- at most one element passes
few_pass : {X : Type 0} (f : X → Bool) (xs : List X) → ((i j : ℕ) (x y : X) → slice_get xs i ≡ Some x → slice_get xs j ≡ Some y → f x ≡ true → f y ≡ true → i ≡ j) → count_by f xs ≤ 1
few_pass f [] h = omega arith
few_pass f (x ∷ xs) h =
    let e = sum_by-cons (λ y. cond (f y) 1 0) x xs in
    by_cases (f x)
    (λ t. let c : ◌≡◌ {A = ℕ} (cond (f x) 1 0) 1 = ap (λ b. cond b 1 0) t in
    let z = none_pass f xs (λ j y a. not_true (f y) (λ u. let w = h 0 (suc j) x y refl a t u in omega arith)) in omega arith)
    (λ t. let c : ◌≡◌ {A = ℕ} (cond (f x) 1 0) 0 = ap (λ b. cond b 1 0) t in
    let z = few_pass f xs (λ i j y u a b k m. let w = h (suc i) (suc j) y u a b k m in omega arith) in omega arith)

module _ {P R M N E : Type 0} (r : Game P R M) (tb : Accessors P M N E) (l : GameLaws P R M r) where
  pub record Fits (s : List N) (v : N) (e : E) : Type 0 where
    pub node : N
    pub stands : slice_get s (tb.to e) ≡ Some node
    pub legal : Member (tb.chosen e) (r.legal (tb.position v))
    pub same : r.repeat (tb.position node) ≡ r.repeat (r.next (tb.position v) (tb.chosen e))
    pub covers : r.counter (r.next (tb.position v) (tb.chosen e)) ≤ r.counter (tb.position node)
    pub falls : fits_rank (r.attacking (tb.position v)) (tb.rank v) (tb.rank node) ≡ true

  pub record IsPlan (s : List N) (g : Story P) (n : ℕ) : Type 0 where
    pub root : N
    pub stands : slice_get s 0 ≡ Some root
    pub same : r.repeat (tb.position root) ≡ r.repeat g.last
    pub covers : r.counter g.last ≤ r.counter (tb.position root)
    pub rank : tb.rank root ≤ n
    pub ended : (i : ℕ) (v : N) → slice_get s i ≡ Some v → (w : Bool) → r.own (tb.position v) ≡ Some w → (w ≡ true) × (tb.edges v ≡ [])
    pub counted : (i : ℕ) (v : N) → slice_get s i ≡ Some v → r.own (tb.position v) ≡ None → run_out r (r.counter (tb.position v)) ≡ false
    pub attack : (i : ℕ) (v : N) → slice_get s i ≡ Some v → r.own (tb.position v) ≡ None → r.attacking (tb.position v) ≡ true → (e : E) × (tb.edges v ≡ e ∷ []) × Fits s v e
    pub defence : (i : ℕ) (v : N) → slice_get s i ≡ Some v → r.own (tb.position v) ≡ None → r.attacking (tb.position v) ≡ false → (is_doubled r tb (tb.edges v) ≡ false) × ((m : M) → Member m (r.legal (tb.position v)) → has_edge r tb v m ≡ true) × ((e : E) → Member e (tb.edges v) → Fits s v e)
    pub differ : (i j : ℕ) (v w : N) → slice_get s i ≡ Some v → slice_get s j ≡ Some w → r.repeat (tb.position v) ≡ r.repeat (tb.position w) → r.counter (tb.position v) ≡ r.counter (tb.position w) → i ≡ j
    pub alone : (i : ℕ) (v : N) → slice_get s (suc i) ≡ Some v → r.repeat (tb.position v) ≡ r.repeat (tb.position root) → ⊥
    pub few : (i : ℕ) (v : N) → slice_get s (suc i) ≡ Some v → 0 < r.fold → times r (r.repeat (tb.position v)) (history g) + nodes_of r tb (r.repeat (tb.position v)) s < r.fold
    pub start : r.own g.last ≡ None → (repeated r g ≡ false) × (run_out r (r.counter g.last) ≡ false)

  -- where the nodes' repeats differ, each stands once
  pub one_node : (s : List N) → ((i j : ℕ) (v w : N) → slice_get s i ≡ Some v → slice_get s j ≡ Some w → r.repeat (tb.position v) ≡ r.repeat (tb.position w) → i ≡ j) → (x : R) → nodes_of r tb x s ≤ 1
  unfolding nodes_of
  one_node s alone x = few_pass _ s (λ i j v w a b e f. alone i j v w a b ((l.decides _ _).0 e ∙ sym ((l.decides _ _).0 f)))

  no_missing : (v : N) (ms : List M) → ((m : M) → Member m ms → has_edge r tb v m ≡ true) → first_missing r tb v ms ≡ None
  no_missing v [] h = refl
  no_missing v (m ∷ ms) h = let e = h m (inl refl) in rw (e, no_missing v ms (λ x k. h x (inr k)))

  module _ (s : List N) (g : Story P) (n : ℕ) (p : IsPlan s g n) (i : ℕ) (v : N) (at : slice_get s i ≡ Some v) where
    fits-edge : (e : E) → Fits s v e → fits_edge r tb s v e ≡ true
    fits-edge e f =
        and_true _ _ (any_intro (r.same_move (tb.chosen e)) (tb.chosen e) (r.legal (tb.position v)) f.legal ((l.decides_move (tb.chosen e) (tb.chosen e)).1 refl))
        (led_true (slice_get s (tb.to e)) _ f.node f.stands ((l.decides _ _).1 f.same))

    fits-rank : (e : E) → Fits s v e → leads (slice_get s (tb.to e)) (λ w. fits_rank (r.attacking (tb.position v)) (tb.rank v) (tb.rank w)) ≡ true
    fits-rank e f = led_true (slice_get s (tb.to e)) _ f.node f.stands f.falls

    fits-counter : (e : E) → Fits s v e → leads (slice_get s (tb.to e)) (λ w. nat_le (r.counter (r.next (tb.position v) (tb.chosen e))) (r.counter (tb.position w))) ≡ true
    fits-counter e f = led_true (slice_get s (tb.to e)) _ f.node f.stands (le_true _ _ f.covers)

    -- all that is asked of the edges
    record Edges : Type 0 where
      pub each : (e : E) → Member e (tb.edges v) → Fits s v e
      pub double : is_doubled r tb (tb.edges v) ≡ false
      pub number : fits_number (node_end r tb v) (r.attacking (tb.position v)) (length (tb.edges v)) ≡ true
      pub reply : missing_reply r tb v ≡ None
      pub won : ends_lost (node_end r tb v) ≡ false

    edges-ended : (w : Bool) → r.own (tb.position v) ≡ Some w → Edges
    unfolding missing_reply
    edges-ended w e =
        let k = p.ended i v at w e in
        let none = k.1 in
        record {
          each = λ x m. absurd (subst (Member x) none m);
          double = rw none;
          number = rw (e, none);
          reply = rw e;
          won = let t = k.0 in rw (e, t);
        }

    live : r.own (tb.position v) ≡ None → node_end r tb v ≡ None
    live e = let k = p.counted i v at e in rw (e, k)

    only_one : (x y : E) → Member x (y ∷ []) → Fits s v y → Fits s v x
    only_one x y (inl e) f = subst (λ z. Fits s v z) e f
    only_one x y (inr k) f = absurd k

    edges-attack : r.own (tb.position v) ≡ None → r.attacking (tb.position v) ≡ true → Edges
    unfolding missing_reply
    edges-attack e m =
        let k = p.attack i v at e m in
        let one = k.1 in
        let end = live e in
        record {
          each = λ x is. only_one x k.0 (subst (Member x) one is) k.2;
          double = rw one;
          number = ap (λ o. fits_number o (r.attacking (tb.position v)) (length (tb.edges v))) end ∙ rw (m, one);
          reply = ap (λ o. missing_at r tb v o (r.attacking (tb.position v))) end ∙ rw m;
          won = ap ends_lost end;
        }

    edges-defence : r.own (tb.position v) ≡ None → r.attacking (tb.position v) ≡ false → Edges
    unfolding missing_reply
    edges-defence e m =
        let k = p.defence i v at e m in
        let end = live e in
        record {
          each = k.2;
          double = k.0;
          number = ap (λ o. fits_number o (r.attacking (tb.position v)) (length (tb.edges v))) end ∙ rw m;
          reply = ap (λ o. missing_at r tb v o (r.attacking (tb.position v))) end ∙ rw m (no_missing v (r.legal (tb.position v)) k.1);
          won = ap ends_lost end;
        }

    edges-of : Edges
    edges-of = own_cases (r.own (tb.position v)) edges-ended (λ e. by_cases (r.attacking (tb.position v)) (edges-attack e) (edges-defence e))

    not_earlier : is_earlier r tb s i v ≡ false
    not_earlier = not_true (is_earlier r tb s i v) (λ t.
        let u = any_member _ (take i s) t in
        let k = taken i s u.0 u.1 in
        let less = k.1 in
        let b = both _ _ u.2 in
        let e = (l.decides (r.repeat (tb.position u.0)) (r.repeat (tb.position v))).0 b.0 in
        let z = p.differ k.0 i u.0 v k.2 at e (eq_from _ _ b.1) in omega arith)

  module _ (s : List N) (g : Story P) (n : ℕ) (p : IsPlan s g n) where
    behind : (i : ℕ) (v : N) → slice_get s i ≡ Some v → (nat_lt 0 i && (is_root_again r tb s v || stands_often r tb s g v)) ≡ false
    behind zero v at = refl
    behind (suc i) v at =
        let a : is_root_again r tb s v ≡ false = led_false (slice_get s 0) _ (λ u b. not_true (r.same (r.repeat (tb.position v)) (r.repeat (tb.position u))) (λ t. let z : u ≡ p.root = let k = p.stands in cc in p.alone i v at ((l.decides _ _).0 t ∙ ap (λ x. r.repeat (tb.position x)) z))) in
        let b : stands_often r tb s g v ≡ false = tests_none r.fold _ (none_or r.fold _ (λ q. p.few i v at q)) in
        rw (a, b) (rest (nat_lt 0 (suc i)))
      where
        rest : (b : Bool) → (b && false) ≡ false
        rest true = refl
        rest false = refl

    is_alone : (i : ℕ) (v : N) → slice_get s i ≡ Some v → repeats_at r tb s g i v ≡ false
    unfolding repeats_at
    is_alone i v at = or_false _ _ (not_earlier s g n p i v at) (behind i v at)

    faultless : (i : ℕ) (v : N) → slice_get s i ≡ Some v → IsFaultless P R M N E r tb s g i v
    unfolding wrong_move bad_rank bad_counter not_won
    faultless i v at =
        let o = edges-of s g n p i v at in record {
          wrong_move = let a = all_intro (fits_edge r tb s v) (tb.edges v) (λ e k. fits-edge s g n p i v at e (o.each e k)) in let b = o.double in let c = o.number in rw (a, b, c);
          missing_reply = o.reply;
          bad_rank = let a = all_intro _ (tb.edges v) (λ e k. fits-rank s g n p i v at e (o.each e k)) in ap not a;
          bad_counter = let a = all_intro _ (tb.edges v) (λ e k. fits-counter s g n p i v at e (o.each e k)) in ap not a;
          repeats = is_alone i v at;
          not_won = or_false _ _ o.won (let c = not_cut r g (r.own g.last) p.start in rw c (rest (i == 0)));
        }
      where
        rest : (b : Bool) → (b && false) ≡ false
        rest true = refl
        rest false = refl

    -- a plan is good
    pub plan-good : AreFaultless P R M N E r tb s g n
    unfolding root_fits
    plan-good = record {
      root = led_true (slice_get s 0) _ p.root p.stands (and_true _ _ ((l.decides _ _).1 p.same) (and_true _ _ (le_true _ _ p.covers) (le_true _ _ p.rank)));
      nodes = faultless;
    }
