-- Chains pass every entry of their bucket.
use Rattle.std.proofs.Common.{◌≡◌, ◌≢◌, ℕ, zero, suc, ◌+◌, ◌-◌, ◌<◌, ◌≤◌, Bool, true, false, ◌||◌, List, [], ◌∷◌, ◌++◌, length, get_or, set, replicate, take, Option, None, Some, refl, ap, sym, ◌∙◌, subst, arith, length-set, if◌then◌else◌}
use Rattle.std.specs.List.{list_any}
use Rattle.std.proofs.lemmas.List.{get_or_append_left, get_or_push, get_or-set_same, get_or-set_other, get_or-map, take_more, take_all, length_push, length-map, map-append}
use Rattle.std.proofs.lemmas.List.Folds.{list_any-append}
use Rattle.std.proofs.lemmas.Bool.{and_parts}
use Rattle.std.proofs.Math.Bool.{or-false, or-true}
use Rattle.std.proofs.lemmas.Grind.{get_or_default_zero}
use Rattle.std.proofs.lemmas.Option.{get_or_from_slice_get}
use Rattle.std.specs.Prelude.{slice_get}
use native.Mathlib.Decide.{ℕ_discrete}
use mathlib.Core.Logic.{dite}
use Rattle.foundation.specs.Tests.{same_bool}
use Rattle.rules_model.specs.declared.board.Repeat.{Repeat}
use Rattle.forced_wins.specs.declared.fact.Fact.{Fact}
use Rattle.forced_wins.specs.Facts.{serves}
use Rattle.forced_wins.proofs.Counts.{not_true}
use Rattle.mate_core.specs.Best.{best, sooner, if_serves, is_as_good, has_better}
use Rattle.mate_core.specs.Hash.{hash_of}
use Rattle.mate_core.proofs.AnswerLemmas.{served, best-push, sooner-none, sooner-assoc}
use Rattle.mate_shards.specs.Index.{IsLast, IsIndex, bucket_of, buckets}

some-at : {X : Type 0} (xs : List X) (k : ℕ) → k < length xs → (x : X) × (slice_get xs k ≡ Some x)
some-at [] k l = absurd (omega arith)
some-at (x ∷ xs) zero l = (x, refl)
some-at (x ∷ xs) (suc k) l = some-at xs k (omega arith)

-- ---- the index grows

longer : (bs ys : List ℕ) (b m at : ℕ) → m ≤ length bs → IsLast bs b m at → IsLast (bs ++ ys) b m at
longer bs ys b m at l last = record {
  low = last.low;
  here = λ some. let low = last.low in get_or_append_left bs ys 0 (at - 1) (omega arith) ∙ last.here some;
  none = λ k from to same. last.none k from to (sym (get_or_append_left bs ys 0 k (omega arith)) ∙ same);
}

-- the new entry is the last of its bucket
newest : (bs : List ℕ) (b : ℕ) → IsLast (bs ++ b ∷ []) b (length bs + 1) (length bs + 1)
newest bs b = record {
  low = omega arith;
  here = λ some. get_or_push bs b 0 (length bs + 1 - 1) (omega arith);
  none = λ k from to same. absurd (omega arith);
}

-- it is none of another bucket
passed_over : (bs : List ℕ) (b c at : ℕ) → c ≢ b → IsLast bs c (length bs) at → IsLast (bs ++ b ∷ []) c (length bs + 1) at
passed_over bs b c at apart last = record {
  low = let low = last.low in omega arith;
  here = (longer bs (b ∷ []) c (length bs) at (omega arith) last).here;
  none = λ k from to same.
      dite (ℕ_discrete k (length bs))
      (λ e. apart (sym same ∙ get_or_push bs b 0 k (sym e)))
      (λ e. (longer bs (b ∷ []) c (length bs) at (omega arith) last).none k from (omega arith) same);
}

pub pushed : (bs heads links : List ℕ) (b : ℕ) → IsIndex bs heads links → b < length heads → IsIndex (bs ++ b ∷ []) (set heads b (length bs + 1)) (links ++ get_or heads b 0 ∷ [])
pushed bs heads links b index l = record {
  linked = let e = index.linked in omega (arith, length_push links (get_or heads b 0), length_push bs b);
  heads_are = head;
  links_are = link;
}
  where
    head : (c : ℕ) → c < length (set heads b (length bs + 1)) → IsLast (bs ++ b ∷ []) c (length (bs ++ b ∷ [])) (get_or (set heads b (length bs + 1)) c 0)
    head c below =
        let P : ℕ → ℕ → ℕ → Type 0 = λ x n at. IsLast (bs ++ b ∷ []) x n at in
        let size = length_push bs b in
        dite (ℕ_discrete c b)
        (λ e.
        let at : get_or (set heads b (length bs + 1)) c 0 ≡ length bs + 1 = ap (λ x. get_or (set heads b (length bs + 1)) x 0) e ∙ get_or-set_same heads b (length bs + 1) 0 l in
        let named = subst (λ x. P x (length bs + 1) (length bs + 1)) (sym e) (newest bs b) in
        subst (λ n. P c n (get_or (set heads b (length bs + 1)) c 0)) (sym size) (subst (λ a. P c (length bs + 1) a) (sym at) named))
        (λ apart.
        let at : get_or (set heads b (length bs + 1)) c 0 ≡ get_or heads c 0 = get_or-set_other heads b c (length bs + 1) 0 apart in
        let within : c < length heads = omega (arith, length-set heads b (length bs + 1)) in
        let old = passed_over bs b c (get_or heads c 0) apart (index.heads_are c within) in
        subst (λ n. P c n (get_or (set heads b (length bs + 1)) c 0)) (sym size) (subst (λ a. P c (length bs + 1) a) (sym at) old))

    link : (i : ℕ) → i < length (bs ++ b ∷ []) → IsLast (bs ++ b ∷ []) (get_or (bs ++ b ∷ []) i 0) i (get_or (links ++ get_or heads b 0 ∷ []) i 0)
    link i below =
        let P : ℕ → ℕ → Type 0 = λ x at. IsLast (bs ++ b ∷ []) x i at in
        let linked = index.linked in
        dite (ℕ_discrete i (length bs))
        (λ e.
        let own : get_or (bs ++ b ∷ []) i 0 ≡ b = get_or_push bs b 0 i (sym e) in
        let at : get_or (links ++ get_or heads b 0 ∷ []) i 0 ≡ get_or heads b 0 = get_or_push links (get_or heads b 0) 0 i (linked ∙ sym e) in
        let last = longer bs (b ∷ []) b (length bs) (get_or heads b 0) (omega arith) (index.heads_are b l) in
        let here : P b (get_or heads b 0) = subst (λ n. IsLast (bs ++ b ∷ []) b n (get_or heads b 0)) (sym e) last in
        subst (λ a. P (get_or (bs ++ b ∷ []) i 0) a) (sym at) (subst (λ x. P x (get_or heads b 0)) (sym own) here))
        (λ apart.
        let within : i < length bs = omega (arith, length_push bs b) in
        let own : get_or (bs ++ b ∷ []) i 0 ≡ get_or bs i 0 = get_or_append_left bs (b ∷ []) 0 i within in
        let at : get_or (links ++ get_or heads b 0 ∷ []) i 0 ≡ get_or links i 0 = get_or_append_left links (get_or heads b 0 ∷ []) 0 i (omega arith) in
        let last = longer bs (b ∷ []) (get_or bs i 0) i (get_or links i 0) (omega arith) (index.links_are i within) in
        subst (λ a. P (get_or (bs ++ b ∷ []) i 0) a) (sym at) (subst (λ x. P x (get_or links i 0)) (sym own) last))

pub empty : (n : ℕ) → IsIndex [] (replicate n 0) []
empty n = record {
  linked = refl;
  heads_are = λ b l.
      let at : ◌≡◌ {A = ℕ} (get_or (replicate n 0) b 0) 0 = replicated n b in
      record { low = omega arith; here = λ some. absurd (omega arith); none = λ k from to same. absurd (omega arith) };
  links_are = λ i l. absurd (omega arith);
}
  where
    replicated : (n b : ℕ) → ◌≡◌ {A = ℕ} (get_or (replicate n 0) b 0) 0
    replicated zero b = refl
    replicated (suc n) zero = refl
    replicated (suc n) (suc b) = replicated n b

-- ---- what lies between two entries of a chain answers nothing

-- `at` is 0 or names an entry of the bucket
pub record InChain (bs : List ℕ) (b at : ℕ) : Type 0 where
  pub low : at ≤ length bs
  pub here : 0 < at → get_or bs (at - 1) 0 ≡ b

pub chained : (bs : List ℕ) (b n at : ℕ) → n ≤ length bs → IsLast bs b n at → InChain bs b at
chained bs b n at l last = record { low = let low = last.low in omega arith; here = last.here }

any_skips : (q : Fact → Bool) (fs : List Fact) (d : Fact) (m k : ℕ) → m + k ≤ length fs → ((i : ℕ) → m ≤ i → i < m + k → q (get_or fs i d) ≡ false) → list_any q (take (m + k) fs) ≡ list_any q (take m fs)
any_skips q fs d m zero l none =
    let e : m + 0 ≡ m = omega arith in ap (λ n. list_any q (take n fs)) e
any_skips q fs d m (suc k) l none =
    let e : m + suc k ≡ m + k + 1 = omega arith in
    let fails = none (m + k) (omega arith) (omega arith) in
    ap (λ n. list_any q (take n fs)) e
    ∙ (ap (list_any q) (take_more fs (m + k) d (omega arith))
    ∙ (list_any-append q (take (m + k) fs) (get_or fs (m + k) d ∷ [])
    ∙ (ap (λ b. list_any q (take (m + k) fs) || (b || false)) fails
    ∙ (or-false (list_any q (take (m + k) fs))
    ∙ any_skips q fs d m k (omega arith) (λ i from to. none i from (omega arith))))))

best_skips : (r : Repeat) (c n : ℕ) (fs : List Fact) (d : Fact) (m k : ℕ) → m + k ≤ length fs → ((i : ℕ) → m ≤ i → i < m + k → serves (get_or fs i d) r c n ≡ false) → best (take (m + k) fs) r c n ≡ best (take m fs) r c n
best_skips r c n fs d m zero l none =
    let e : m + 0 ≡ m = omega arith in ap (λ x. best (take x fs) r c n) e
best_skips r c n fs d m (suc k) l none =
    let e : m + suc k ≡ m + k + 1 = omega arith in
    let x = get_or fs (m + k) d in
    let nothing : if_serves x r c n ≡ None = ap (λ b. if b then Some x else None) (none (m + k) (omega arith) (omega arith)) in
    ap (λ j. best (take j fs) r c n) e
    ∙ (ap (λ xs. best xs r c n) (take_more fs (m + k) d (omega arith))
    ∙ (best-push (take (m + k) fs) x r c n
    ∙ (ap (sooner (best (take (m + k) fs) r c n)) nothing
    ∙ (sooner-none (best (take (m + k) fs) r c n)
    ∙ best_skips r c n fs d m k (omega arith) (λ i from to. none i from (omega arith))))))

-- ---- for facts

module _ (capacity : ℕ) (fs : List Fact) (d : Fact) where
  bucket_at : (i : ℕ) → i < length fs → get_or (buckets capacity fs) i 0 ≡ bucket_of capacity (hash_of (get_or fs i d).repeat)
  bucket_at i l = get_or-map (λ f. bucket_of capacity (hash_of f.repeat)) fs i d 0 l

  size : length (buckets capacity fs) ≡ length fs
  size = length-map fs (λ f. bucket_of capacity (hash_of f.repeat))

  -- a fact of another bucket is of another repeat
  other_bucket : (r : Repeat) (c n i : ℕ) → i < length fs → get_or (buckets capacity fs) i 0 ≢ bucket_of capacity (hash_of r) → serves (get_or fs i d) r c n ≡ false
  other_bucket r c n i l apart =
      not_true (serves (get_or fs i d) r c n)
      (λ t. apart (bucket_at i l ∙ ap (λ x. bucket_of capacity (hash_of x)) (served (get_or fs i d) r c n t).0))

  -- below `n` only what `at` names can answer
  pub best-chain : (r : Repeat) (c m n at : ℕ) → n ≤ length fs → IsLast (buckets capacity fs) (bucket_of capacity (hash_of r)) n at → best (take n fs) r c m ≡ best (take at fs) r c m
  best-chain r c m n at l last =
      let low = last.low in
      let e : n ≡ at + (n - at) = omega arith in
      ap (λ x. best (take x fs) r c m) e
      ∙ best_skips r c m fs d at (n - at) (omega arith) (λ i from to. other_bucket r c m i (omega arith) (last.none i from (omega arith)))

  pub better-chain : (f : Fact) (n at : ℕ) → n ≤ length fs → IsLast (buckets capacity fs) (bucket_of capacity (hash_of f.repeat)) n at → has_better (take n fs) f ≡ has_better (take at fs) f
  unfolding is_as_good
  better-chain f n at l last =
      let low = last.low in
      let e : n ≡ at + (n - at) = omega arith in
      ap (λ x. has_better (take x fs) f) e
      ∙ any_skips (λ k. is_as_good k f) fs d at (n - at) (omega arith)
      (λ i from to.
      let k = get_or fs i d in
      not_true (is_as_good k f)
      (λ t.
      let s : serves k f.repeat f.counter f.moves ≡ true = (and_parts (same_bool k.wins f.wins) (serves k f.repeat f.counter f.moves) t).1 in
      last.none i from (omega arith) (bucket_at i (omega arith) ∙ ap (λ x. bucket_of capacity (hash_of x)) (served k f.repeat f.counter f.moves s).0)))

  -- the walk goes from one entry to the next
  pub best-next : (r : Repeat) (c m at next : ℕ) (found : Option Fact) → 0 < at → at ≤ length fs → IsLast (buckets capacity fs) (bucket_of capacity (hash_of r)) (at - 1) next → sooner (best (take at fs) r c m) found ≡ sooner (best (take next fs) r c m) (sooner (if_serves (get_or fs (at - 1) d) r c m) found)
  best-next r c m at next found some l last =
      let e : at ≡ at - 1 + 1 = omega arith in
      let x = get_or fs (at - 1) d in
      ap (λ o. sooner o found)
      (ap (λ j. best (take j fs) r c m) e ∙ (ap (λ xs. best xs r c m) (take_more fs (at - 1) d (omega arith)) ∙ best-push (take (at - 1) fs) x r c m))
      ∙ (sooner-assoc (best (take (at - 1) fs) r c m) (if_serves x r c m) found
      ∙ ap (λ o. sooner o (sooner (if_serves x r c m) found)) (best-chain r c m (at - 1) next (omega arith) last))

  pub better-next : (f : Fact) (at next : ℕ) → 0 < at → at ≤ length fs → is_as_good (get_or fs (at - 1) d) f ≡ false → IsLast (buckets capacity fs) (bucket_of capacity (hash_of f.repeat)) (at - 1) next → has_better (take at fs) f ≡ has_better (take next fs) f
  better-next f at next some l fails last =
      let e : at ≡ at - 1 + 1 = omega arith in
      let q : Fact → Bool = λ k. is_as_good k f in
      ap (λ j. list_any q (take j fs)) e
      ∙ (ap (list_any q) (take_more fs (at - 1) d (omega arith))
      ∙ (list_any-append q (take (at - 1) fs) (get_or fs (at - 1) d ∷ [])
      ∙ (ap (λ b. list_any q (take (at - 1) fs) || (b || false)) fails
      ∙ (or-false (list_any q (take (at - 1) fs))
      ∙ better-chain f (at - 1) next (omega arith) last))))

  -- one that is as good is found
  pub better-here : (f : Fact) (at : ℕ) → 0 < at → at ≤ length fs → is_as_good (get_or fs (at - 1) d) f ≡ true → has_better (take at fs) f ≡ true
  better-here f at some l is =
      let e : at ≡ at - 1 + 1 = omega arith in
      let q : Fact → Bool = λ k. is_as_good k f in
      ap (λ j. list_any q (take j fs)) e
      ∙ (ap (list_any q) (take_more fs (at - 1) d (omega arith))
      ∙ (list_any-append q (take (at - 1) fs) (get_or fs (at - 1) d ∷ [])
      ∙ (ap (λ b. list_any q (take (at - 1) fs) || (b || false)) is ∙ or-true (list_any q (take (at - 1) fs)))))

  -- the link of an entry of the bucket
  pub link-at : (heads links : List ℕ) (b at : ℕ) → IsIndex (buckets capacity fs) heads links → InChain (buckets capacity fs) b at → 0 < at → IsLast (buckets capacity fs) b (at - 1) (get_or links (at - 1) 0)
  link-at heads links b at index chain some =
      let low = chain.low in
      let P : ℕ → Type 0 = λ x. IsLast (buckets capacity fs) x (at - 1) (get_or links (at - 1) 0) in
      subst P (chain.here some) (index.links_are (at - 1) (omega arith))

-- ---- the two walks

-- how far a look has come: what is still ahead, and what was found
pub record Looking (capacity : ℕ) (fs : List Fact) (h : ℕ) (r : Repeat) (c m at : ℕ) (found : Option Fact) : Type 0 where
  pub chain : InChain (buckets capacity fs) (bucket_of capacity h) at
  pub rest : best fs r c m ≡ sooner (best (take at fs) r c m) found

-- how far a search for a fact as good has come: none was found
pub record Comparing (capacity : ℕ) (fs : List Fact) (h : ℕ) (f : Fact) (at : ℕ) : Type 0 where
  pub chain : InChain (buckets capacity fs) (bucket_of capacity h) at
  pub rest : has_better fs f ≡ has_better (take at fs) f

some_fact : Repeat → Fact
some_fact r = record { repeat = r; attacker = r.side; moves = 0; counter = 0; best = None; wins = true }

module _ (capacity : ℕ) (fs : List Fact) (h : ℕ) (r : Repeat) (hashed : h ≡ hash_of r) where
  by_repeat : (n at : ℕ) → IsLast (buckets capacity fs) (bucket_of capacity h) n at → IsLast (buckets capacity fs) (bucket_of capacity (hash_of r)) n at
  by_repeat n at last = let P : ℕ → Type 0 = λ x. IsLast (buckets capacity fs) (bucket_of capacity x) n at in subst P hashed last

  in_chain : (n at : ℕ) → n ≤ length fs → IsLast (buckets capacity fs) (bucket_of capacity h) n at → InChain (buckets capacity fs) (bucket_of capacity h) at
  in_chain n at l last = chained (buckets capacity fs) (bucket_of capacity h) n at (let e = size capacity fs (some_fact r) in omega arith) last

  pub look-starts : (c m at : ℕ) → IsLast (buckets capacity fs) (bucket_of capacity h) (length fs) at → Looking capacity fs h r c m at None
  look-starts c m at last = record {
    chain = in_chain (length fs) at (omega arith) last;
    rest =
        ap (λ xs. best xs r c m) (sym (take_all (length fs) fs (omega arith)))
        ∙ (best-chain capacity fs (some_fact r) r c m (length fs) at (omega arith) (by_repeat (length fs) at last)
        ∙ sym (sooner-none (best (take at fs) r c m)));
  }

  pub look-goes-on : (heads links : List ℕ) (c m at next : ℕ) (found older : Option Fact) (x : Fact) → IsIndex (buckets capacity fs) heads links → Looking capacity fs h r c m at found → 0 < at → x ≡ get_or fs (at - 1) x → next ≡ get_or links (at - 1) 0 → older ≡ sooner (if_serves x r c m) found → Looking capacity fs h r c m next older
  look-goes-on heads links c m at next found older x index look some read link joined =
      let low = look.chain.low in
      let e = size capacity fs x in
      let P : ℕ → Type 0 = λ n. IsLast (buckets capacity fs) (bucket_of capacity h) (at - 1) n in
      let last = subst P (sym link) (link-at capacity fs x heads links (bucket_of capacity h) at index look.chain some) in
      record {
        chain = in_chain (at - 1) next (omega arith) last;
        rest =
            look.rest
            ∙ (best-next capacity fs x r c m at next found some (omega arith) (by_repeat (at - 1) next last)
            ∙ (ap (λ y. sooner (best (take next fs) r c m) (sooner (if_serves y r c m) found)) (sym read)
            ∙ ap (sooner (best (take next fs) r c m)) (sym joined)));
      }

  pub look-ends : (c m at : ℕ) (found : Option Fact) → Looking capacity fs h r c m at found → at ≡ 0 → found ≡ best fs r c m
  unfolding best
  look-ends c m at found look e =
      sym (look.rest ∙ ap (λ n. sooner (best (take n fs) r c m) found) e)

module _ (capacity : ℕ) (fs : List Fact) (h : ℕ) (f : Fact) (hashed : h ≡ hash_of f.repeat) where
  pub search-starts : (at : ℕ) → IsLast (buckets capacity fs) (bucket_of capacity h) (length fs) at → Comparing capacity fs h f at
  search-starts at last = record {
    chain = in_chain capacity fs h f.repeat hashed (length fs) at (omega arith) last;
    rest =
        ap (λ xs. has_better xs f) (sym (take_all (length fs) fs (omega arith)))
        ∙ better-chain capacity fs f f (length fs) at (omega arith) (by_repeat capacity fs h f.repeat hashed (length fs) at last);
  }

  pub search-goes-on : (heads links : List ℕ) (at next : ℕ) (x : Fact) → IsIndex (buckets capacity fs) heads links → Comparing capacity fs h f at → 0 < at → x ≡ get_or fs (at - 1) x → is_as_good x f ≡ false → next ≡ get_or links (at - 1) 0 → Comparing capacity fs h f next
  search-goes-on heads links at next x index comparing some read fails link =
      let low = comparing.chain.low in
      let e = size capacity fs x in
      let P : ℕ → Type 0 = λ n. IsLast (buckets capacity fs) (bucket_of capacity h) (at - 1) n in
      let last = subst P (sym link) (link-at capacity fs x heads links (bucket_of capacity h) at index comparing.chain some) in
      record {
        chain = in_chain capacity fs h f.repeat hashed (at - 1) next (omega arith) last;
        rest =
            comparing.rest
            ∙ better-next capacity fs x f at next some (omega arith) (ap (λ y. is_as_good y f) (sym read) ∙ fails) (by_repeat capacity fs h f.repeat hashed (at - 1) next last);
      }

  pub search-finds : (at : ℕ) (x : Fact) → Comparing capacity fs h f at → 0 < at → x ≡ get_or fs (at - 1) x → is_as_good x f ≡ true → has_better fs f ≡ true
  search-finds at x comparing some read is =
      let low = comparing.chain.low in
      let e = size capacity fs x in
      comparing.rest ∙ better-here capacity fs x f at some (omega arith) (ap (λ y. is_as_good y f) (sym read) ∙ is)

-- a fact is put at the end of the list and at the head of its chain
pub pushed-fact : (capacity : ℕ) (fs grown : List Fact) (heads links linked : List ℕ) (f : Fact) (h bucket head count : ℕ) → IsIndex (buckets capacity fs) heads links → h ≡ hash_of f.repeat → bucket ≡ bucket_of capacity h → bucket < length heads → head ≡ get_or heads bucket 0 → grown ≡ fs ++ f ∷ [] → count ≡ length fs + 1 → linked ≡ links ++ head ∷ [] → IsIndex (buckets capacity grown) (set heads bucket count) linked
pushed-fact capacity fs grown heads links linked f h bucket head count index hashed of_hash l read grows counted links_grow =
    let b = bucket_of capacity (hash_of f.repeat) in
    let of : Fact → ℕ = λ g. bucket_of capacity (hash_of g.repeat) in
    let is_b : bucket ≡ b = of_hash ∙ ap (λ x. bucket_of capacity x) hashed in
    let all_buckets : buckets capacity grown ≡ buckets capacity fs ++ b ∷ [] = ap (buckets capacity) grows ∙ map-append of fs (f ∷ []) in
    let entries : count ≡ length (buckets capacity fs) + 1 = counted ∙ ap (λ n. n + 1) (sym (size capacity fs f)) in
    let links_are : linked ≡ links ++ get_or heads bucket 0 ∷ [] = links_grow ∙ ap (λ x. links ++ x ∷ []) read in
    let made : IsIndex (buckets capacity fs ++ bucket ∷ []) (set heads bucket (length (buckets capacity fs) + 1)) (links ++ get_or heads bucket 0 ∷ []) = pushed (buckets capacity fs) heads links bucket index l in
    let P : List ℕ → Type 0 = λ bs. IsIndex bs (set heads bucket count) linked in
    let Q : ℕ → Type 0 = λ n. IsIndex (buckets capacity fs ++ bucket ∷ []) (set heads bucket n) linked in
    let R : List ℕ → Type 0 = IsIndex (buckets capacity fs ++ bucket ∷ []) (set heads bucket (length (buckets capacity fs) + 1)) in
    subst P (ap (λ x. buckets capacity fs ++ x ∷ []) is_b ∙ sym all_buckets) (subst Q (sym entries) (subst R (sym links_are) made))

-- ---- a list is chained anew

pub started : (n : ℕ) (heads links : List ℕ) → heads ≡ replicate n 0 → links ≡ [] → IsIndex [] heads links
started n heads links zeros none =
    let P : List ℕ → Type 0 = λ hs. IsIndex [] hs links in
    let Q : List ℕ → Type 0 = IsIndex [] (replicate n 0) in
    subst P (sym zeros) (subst Q (sym none) (empty n))

taken : {X : Type 0} (xs : List X) (i : ℕ) → i ≤ length xs → length (take i xs) ≡ i
taken xs zero l = refl
taken [] (suc i) l = absurd (omega arith)
taken (x ∷ xs) (suc i) l = let e = taken xs i (omega arith) in omega arith

pub chain-size : (count : ℕ) (facts : List Fact) (heads links : List ℕ) (i : ℕ) → i < length facts → IsIndex (buckets count (take i facts)) heads links → length links ≡ i
chain-size count facts heads links i l index =
    index.linked ∙ (length-map (take i facts) (λ f. bucket_of count (hash_of f.repeat)) ∙ taken facts i (omega arith))

pub chain-step : (count : ℕ) (facts : List Fact) (heads links linked : List ℕ) (i bucket head : ℕ) → i < length facts → IsIndex (buckets count (take i facts)) heads links → bucket < length heads → ((f : Fact) → slice_get facts i ≡ Some f → bucket ≡ bucket_of count (hash_of f.repeat)) → head ≡ get_or heads bucket head → linked ≡ links ++ head ∷ [] → IsIndex (buckets count (take (i + 1) facts)) (set heads bucket (i + 1)) linked
chain-step count facts heads links linked i bucket head l index below of read grows =
    let f = some-at facts i l in
    let more : take (i + 1) facts ≡ take i facts ++ f.0 ∷ [] = take_more facts i f.0 l ∙ ap (λ x. take i facts ++ x ∷ []) (get_or_from_slice_get facts i f.0 f.0 f.1) in
    let size_of = taken facts i (omega arith) in
    pushed-fact count (take i facts) (take (i + 1) facts) heads links linked f.0 (hash_of f.0.repeat) bucket head (i + 1) index refl (of f.0 f.1) below (read ∙ get_or_default_zero heads bucket head below) more (omega arith) grows

pub chain-whole : (count i : ℕ) (facts : List Fact) (heads links : List ℕ) → i ≡ length facts → IsIndex (buckets count (take i facts)) heads links → IsIndex (buckets count facts) heads links
chain-whole count i facts heads links e index =
    let P : List Fact → Type 0 = λ fs. IsIndex (buckets count fs) heads links in
    subst P (take_all i facts (omega arith)) index
