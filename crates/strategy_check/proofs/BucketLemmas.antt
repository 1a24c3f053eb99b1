-- The nodes of one repeat are those of its bucket.
use Rattle.std.proofs.Common.{◌≡◌, ◌⊎◌, inl, inr, ℕ, zero, suc, ◌+◌, ◌%◌, ◌^◌, ◌<◌, ◌≤◌, min, Bool, true, false, nat_lt, ◌==◌, ◌&&◌, ◌||◌, cond, List, [], ◌∷◌, ◌++◌, length, take, get_or, set, replicate, Some, None, slice_get, count_by, if◌then◌else◌, refl, ap, sym, ◌∙◌, add-one, append-nil, arith}
use Rattle.std.specs.List.{filter, list_any}
use Rattle.std.proofs.lemmas.Bool.{and_parts}
use Rattle.std.proofs.lemmas.Bool.Decides.{nat_tests}
use Rattle.std.proofs.lemmas.List.{take_more, take_all, length-set, length-replicate, get_or-set_same, get_or-set_other, get_or-replicate}
use Rattle.std.proofs.lemmas.List.Elements.{filter-append}
use Rattle.std.proofs.lemmas.List.Folds.{list_any-append}
use Rattle.std.proofs.lemmas.List.Sums.{sum_by-append}
use Rattle.std.proofs.lemmas.Option.{slice_get_cases}
use Rattle.foundation.specs.Count.{below}
use Rattle.rules_model.specs.declared.board.Position.{Position}
use Rattle.rules_model.specs.declared.board.Repeat.{Repeat}
use Rattle.rules_model.specs.Repeats.{repeat_of}
use Rattle.rules_model.proofs.EqualLaws.{repeat-decides}
use Rattle.position_key.specs.Key as Keys
use Rattle.forced_wins.proofs.Counts.{by_cases, eq_to, eq_from, true_false, not_true}
use Rattle.strategy.specs.declared.nodes.Node.{Node}
use Rattle.strategy_check.specs.declared.places.Key.{Key}
use Rattle.strategy_check.specs.declared.places.Key.TheVariants as by
use Rattle.strategy_check.specs.Buckets.{at, has_repeat, is_twin, falls_into, bucket, found, number_of, put, AreFilled, IsIndex}

-- the element at a place
pub element : {X : Type 0} (xs : List X) (k : ℕ) → k < length xs → (x : X) × (slice_get xs k ≡ Some x) × (get_or xs k x ≡ x)
element {X = X} xs k h = pick (slice_get_cases xs k).1
  where
    pick : ((x : X) × (k < length xs) × (slice_get xs k ≡ Some x) × (get_or xs k x ≡ x)) ⊎ ((length xs ≤ k) × (slice_get xs k ≡ None)) → (x : X) × (slice_get xs k ≡ Some x) × (get_or xs k x ≡ x)
    pick (inl u) = (u.0, u.2, u.3)
    pick (inr u) = absurd (omega (arith, u.0))

lt_true : (m n : ℕ) → nat_lt m n ≡ true → m < n
lt_true m n h = grind (arith, nat_tests)

lt_false : (m n : ℕ) → nat_lt m n ≡ false → n ≤ m
lt_false m n h = grind (arith, nat_tests)

or-false : (b : Bool) → (b || false) ≡ b
or-false true = refl
or-false false = refl

-- ---- a bucket has all that pass a test which leads into it

module _ (s : List Node) (into test : Node → Bool) (within : (v : Node) → test v ≡ true → into v ≡ true) where
  outside : (v : Node) → into v ≡ false → test v ≡ false
  outside v h = not_true (test v) (λ e. true_false (into v) (within v e) h)

  count-one : (k : ℕ) (v : Node) → slice_get s k ≡ Some v → count_by (at s test) (filter (at s into) (k ∷ [])) ≡ count_by test (v ∷ [])
  count-one k v e =
      by_cases (into v)
      (λ y. rw (e, y, e))
      (λ n. let t = outside v n in rw (e, n, t))

  pub count-bucket : (k : ℕ) → k ≤ length s → count_by (at s test) (filter (at s into) (below k)) ≡ count_by test (take k s)
  unfolding below
  count-bucket zero h = refl
  count-bucket (suc k) h =
      let u = element s k (omega arith) in
      let v = u.0 in
      let more : take (suc k) s ≡ take k s ++ v ∷ [] = rw (sym (add-one k)) (take_more s k v (omega arith) ∙ ap (λ x. take k s ++ x ∷ []) u.2) in
      ap (count_by (at s test)) (filter-append (at s into) (below k) (k ∷ []))
      ∙ sum_by-append (λ j. cond (at s test j) 1 0) (filter (at s into) (below k)) (filter (at s into) (k ∷ []))
      ∙ (λ i. count-bucket k (omega arith) i + count-one k v u.1 i)
      ∙ sym (ap (count_by test) more ∙ sum_by-append (λ w. cond (test w) 1 0) (take k s) (v ∷ []))

  module _ (first : ℕ) where
    abbrev early : ℕ → Bool
    early j = nat_lt j first && at s test j

    any-one : (k : ℕ) (v : Node) → slice_get s k ≡ Some v → nat_lt k first ≡ true → list_any early (filter (at s into) (k ∷ [])) ≡ list_any test (v ∷ [])
    any-one k v e l =
        by_cases (into v)
        (λ y. rw (e, y, l, e))
        (λ n. let t = outside v n in rw (e, n, t))

    any-late : (k : ℕ) (v : Node) → slice_get s k ≡ Some v → nat_lt k first ≡ false → list_any early (filter (at s into) (k ∷ [])) ≡ false
    any-late k v e l =
        by_cases (into v)
        (λ y. rw (e, y, l))
        (λ n. rw (e, n))

    pub any-bucket : (k : ℕ) → k ≤ length s → list_any early (filter (at s into) (below k)) ≡ list_any test (take (min first k) s)
    unfolding below
    any-bucket zero h = ap (λ n. list_any test (take n s)) (let z : 0 ≡ min first 0 = omega arith in z)
    any-bucket (suc k) h =
        let u = element s k (omega arith) in
        let v = u.0 in
        let split = ap (list_any early) (filter-append (at s into) (below k) (k ∷ [])) ∙ list_any-append early (filter (at s into) (below k)) (filter (at s into) (k ∷ [])) in
        split ∙ by_cases (nat_lt k first) (λ l. soon k v u.1 u.2 l (omega arith) (any-bucket k (omega arith))) (λ l. late k v u.1 l (any-bucket k (omega arith)))
      where
        soon : (k : ℕ) (v : Node) → slice_get s k ≡ Some v → get_or s k v ≡ v → nat_lt k first ≡ true → k < length s → list_any early (filter (at s into) (below k)) ≡ list_any test (take (min first k) s) →
            (list_any early (filter (at s into) (below k)) || list_any early (filter (at s into) (k ∷ []))) ≡ list_any test (take (min first (suc k)) s)
        soon k v e is l lt rest =
            let below_first = lt_true k first l in
            let here : min first k ≡ k = omega arith in
            let there : min first (suc k) ≡ k + 1 = omega arith in
            let more : take (k + 1) s ≡ take k s ++ v ∷ [] = take_more s k v lt ∙ ap (λ x. take k s ++ x ∷ []) is in
            (λ i. (rest ∙ ap (λ n. list_any test (take n s)) here) i || any-one k v e l i)
            ∙ sym (ap (λ n. list_any test (take n s)) there ∙ ap (list_any test) more ∙ list_any-append test (take k s) (v ∷ []))

        late : (k : ℕ) (v : Node) → slice_get s k ≡ Some v → nat_lt k first ≡ false → list_any early (filter (at s into) (below k)) ≡ list_any test (take (min first k) s) →
            (list_any early (filter (at s into) (below k)) || list_any early (filter (at s into) (k ∷ []))) ≡ list_any test (take (min first (suc k)) s)
        late k v e l rest =
            let not_below = lt_false k first l in
            let same : min first k ≡ min first (suc k) = omega arith in
            (λ i. rest i || any-late k v e l i) ∙ or-false _ ∙ ap (λ n. list_any test (take n s)) same

-- ---- buckets are filled place by place

module _ (key : Key) (s : List Node) where
  bucket-more : (b k size : ℕ) (v : Node) → slice_get s k ≡ Some v → bucket key s size b (k + 1) ≡ bucket key s size b k ++ (if falls_into key size b v then k ∷ [] else [])
  unfolding bucket below
  bucket-more b k size v e =
      let here : filter (at s (falls_into key size b)) (k ∷ []) ≡ (if falls_into key size b v then k ∷ [] else []) = rw e in
      rw add-one (filter-append (at s (falls_into key size b)) (below k) (k ∷ []) ∙ ap (λ ks. filter (at s (falls_into key size b)) (below k) ++ ks) here)

  pub filled-none : (n : ℕ) → 0 < n → AreFilled key s 0 (replicate n [])
  unfolding bucket below
  filled-none n h = record {
    some = let e = length-replicate {A = List ℕ} n [] in omega arith;
    each = λ b k. let e = length-replicate {A = List ℕ} n [] in get_or-replicate n b [] [] (omega arith);
  }

  module _ (i : ℕ) (v : Node) (is : slice_get s i ≡ Some v) (bs : List (List ℕ)) (filled : AreFilled key s i bs) where
    own : ℕ
    own = number_of key v.position % length bs

    own-below : own < length bs
    unfolding own
    own-below = let some = filled.some in omega arith

    new-each : (b : ℕ) → b < length bs → get_or (put bs i (number_of key v.position)) b [] ≡ bucket key s (length bs) b (i + 1)
    unfolding own
    new-each b h =
        by_cases (falls_into key (length bs) b v)
        (λ y. let e : own ≡ b = eq_from _ _ y in
        let more : bucket key s (length bs) b (i + 1) ≡ bucket key s (length bs) b i ++ i ∷ [] = bucket-more b i (length bs) v is ∙ rw y in
        ap (λ c. get_or (set bs c (get_or bs c [] ++ i ∷ [])) b []) e
        ∙ get_or-set_same bs b (get_or bs b [] ++ i ∷ []) [] h
        ∙ ap (λ ks. ks ++ i ∷ []) (filled.each b h) ∙ sym more)
        (λ n. let apart : b ≡ own → ⊥ = λ e. true_false (falls_into key (length bs) b v) (eq_to own b (sym e)) n in
        let more : bucket key s (length bs) b (i + 1) ≡ bucket key s (length bs) b i ++ [] = bucket-more b i (length bs) v is ∙ rw n in
        get_or-set_other bs own b (get_or bs own [] ++ i ∷ []) [] apart ∙ filled.each b h ∙ sym (more ∙ append-nil (bucket key s (length bs) b i)))

    pub filled-more : AreFilled key s (i + 1) (put bs i (number_of key v.position))
    filled-more =
        let len : length (put bs i (number_of key v.position)) ≡ length bs = length-set bs _ _ in
        let some = filled.some in
        record {
          some = omega arith;
          each = λ b h. new-each b (omega arith) ∙ ap (λ n. bucket key s n b (i + 1)) (sym len);
        }

-- ---- what is found

-- nodes of one repeat and one counter have one key
twin-key : (key : Key) (p q : Position) → repeat_of p ≡ repeat_of q → p.counter ≡ q.counter → number_of key p ≡ number_of key q
twin-key by.Repeat p q r c = ap Keys.key_of r
twin-key by.Counter p q r c = λ i. (Keys.key_of (r i) + c i) % 2 ^ 64

is-repeat : (r : Repeat) (v : Node) → has_repeat r v ≡ true → repeat_of v.position ≡ r
is-repeat r v h = (repeat-decides (repeat_of v.position) r).0 h

module _ (key : Key) (s : List Node) (bs : List (List ℕ)) (index : IsIndex key s bs) (p : Position) where
  abbrev into : Node → Bool
  into v = falls_into key (length bs) (number_of key p % length bs) v

  falls : (v : Node) → number_of key v.position ≡ number_of key p → into v ≡ true
  falls v e = eq_to _ _ (ap (λ n. n % length bs) e)

  bucket-is : found bs (number_of key p) ≡ filter (at s (falls_into key (length bs) (number_of key p % length bs))) (below (length s))
  unfolding bucket
  bucket-is = let some = index.some in index.each (number_of key p % length bs) (omega arith)

  twin-falls : (v : Node) → is_twin p v ≡ true → into v ≡ true
  twin-falls v h =
      let both = and_parts (has_repeat (repeat_of p) v) (v.position.counter == p.counter) h in
      falls v (twin-key key v.position p (is-repeat (repeat_of p) v both.0) (eq_from _ _ both.1))

  pub twin-found : (first : ℕ) → first ≤ length s → list_any (λ j. nat_lt j first && at s (is_twin p) j) (found bs (number_of key p)) ≡ list_any (is_twin p) (take first s)
  twin-found first h =
      let least : min first (length s) ≡ first = omega arith in
      ap (list_any (λ j. nat_lt j first && at s (is_twin p) j)) bucket-is
      ∙ any-bucket s (falls_into key (length bs) (number_of key p % length bs)) (is_twin p) twin-falls first (length s) (omega arith)
      ∙ ap (λ n. list_any (is_twin p) (take n s)) least

pub count-found : (key : Key) (s : List Node) (bs : List (List ℕ)) (p : Position) → key ≡ by.Repeat → IsIndex key s bs
    → count_by (at s (has_repeat (repeat_of p))) (found bs (number_of key p)) ≡ count_by (has_repeat (repeat_of p)) s
count-found by.Counter s bs p is index = absurd (cc)
count-found by.Repeat s bs p is index =
    ap (count_by (at s (has_repeat (repeat_of p)))) (bucket-is by.Repeat s bs index p)
    ∙ count-bucket s (falls_into by.Repeat (length bs) (Keys.key_of (repeat_of p) % length bs)) (has_repeat (repeat_of p))
    (λ v h. falls by.Repeat s bs index p v (ap Keys.key_of (is-repeat (repeat_of p) v h))) (length s) (omega arith)
    ∙ ap (count_by (has_repeat (repeat_of p))) (take_all (length s) s (omega arith))
