-- A walk along a chain misses no place of its key.
use Rattle.std.proofs.Common.{◌≡◌, ◌≢◌, ◌⊎◌, inl, inr, ℕ, zero, suc, ◌+◌, ◌-◌, ◌<◌, ◌≤◌, List, [], ◌∷◌, ◌++◌, length, get_or, slice_get, set, None, Some, refl, ap, sym, ◌∙◌, subst, arith, length-set}
use Rattle.std.proofs.lemmas.List.{get_or-map, length-map, map-append}
use Rattle.std.proofs.lemmas.Grind.{get_or_default_zero}
use Rattle.std.proofs.lemmas.Option.{get_or_from_slice_get}
use Rattle.key_index.specs.Index.{IsLast, IsIndex, InChain, AreChains, bucket_of, buckets}
use Rattle.key_index.specs.Places.{IsLastPlace}
use Rattle.key_index.proofs.IndexLemmas.{chained, pushed}

size : (count : ℕ) (keys : List ℕ) → length (buckets count keys) ≡ length keys
size count keys = length-map keys (bucket_of count)

within : (keys : List ℕ) (j key : ℕ) → slice_get keys j ≡ Some key → j < length keys
within [] j key h = cc
within (x ∷ xs) zero key h = omega arith
within (x ∷ xs) (suc j) key h = let k = within xs j key h in omega arith

got : (keys : List ℕ) (j : ℕ) → j < length keys → slice_get keys j ≡ Some (get_or keys j 0)
got [] j l = absurd (omega arith)
got (x ∷ xs) zero l = refl
got (x ∷ xs) (suc j) l = got xs j (omega arith)

-- the bucket of a place of the key
bucket_at : (count : ℕ) (keys : List ℕ) (key j : ℕ) → slice_get keys j ≡ Some key → get_or (buckets count keys) j 0 ≡ bucket_of count key
bucket_at count keys key j h = get_or-map (bucket_of count) keys j 0 0 (within keys j key h) ∙ ap (bucket_of count) (get_or_from_slice_get keys j key 0 h)

-- a key is put at the end of the list and at the head of its chain
pub pushed-key : (keys grown heads links linked : List ℕ) (key bucket head count : ℕ) → AreChains keys heads links → bucket ≡ bucket_of (length heads) key → bucket < length heads → head ≡ get_or heads bucket 0 → grown ≡ keys ++ key ∷ [] → count ≡ length keys + 1 → linked ≡ links ++ head ∷ [] → AreChains grown (set heads bucket count) linked
pushed-key keys grown heads links linked key bucket head count chains of_key l read grows counted links_grow =
    let n = length heads in
    let same : length (set heads bucket count) ≡ n = length-set heads bucket count in
    let all_buckets : buckets n grown ≡ buckets n keys ++ bucket ∷ [] = ap (buckets n) grows ∙ (map-append (bucket_of n) keys (key ∷ []) ∙ ap (λ x. buckets n keys ++ x ∷ []) (sym of_key)) in
    let entries : count ≡ length (buckets n keys) + 1 = counted ∙ ap (λ x. x + 1) (sym (size n keys)) in
    let links_are : linked ≡ links ++ get_or heads bucket 0 ∷ [] = links_grow ∙ ap (λ x. links ++ x ∷ []) read in
    let made = pushed (buckets n keys) heads links bucket chains.index l in
    let R : List ℕ → Type 0 = IsIndex (buckets n keys ++ bucket ∷ []) (set heads bucket (length (buckets n keys) + 1)) in
    let Q : ℕ → Type 0 = λ x. IsIndex (buckets n keys ++ bucket ∷ []) (set heads bucket x) linked in
    let P : List ℕ → Type 0 = λ bs. IsIndex bs (set heads bucket count) linked in
    let T : ℕ → Type 0 = λ x. IsIndex (buckets x grown) (set heads bucket count) linked in
    record {
      some = let some = chains.some in omega arith;
      index = subst T (sym same) (subst P (sym all_buckets) (subst Q (sym entries) (subst R (sym links_are) made)));
    }

-- how far a walk for a key has come: of the first n places none from `at` on has it
pub record IsWalking (keys : List ℕ) (count key n at : ℕ) : Type 0 where
  pub chain : InChain (buckets count keys) (bucket_of count key) at
  pub low : at ≤ n
  pub none : (j : ℕ) → at ≤ j → j < n → slice_get keys j ≡ Some key → ⊥

module _ (keys heads links : List ℕ) (chains : AreChains keys heads links) (key : ℕ) where
  abbrev count : ℕ
  count = length heads

  starts : (n at : ℕ) → n ≤ length keys → IsLast (buckets count keys) (bucket_of count key) n at → IsWalking keys count key n at
  starts n at l last = record {
    chain = chained (buckets count keys) (bucket_of count key) n at (let e = size count keys in omega arith) last;
    low = last.low;
    none = λ j from to h. last.none j from to (bucket_at count keys key j h);
  }

  -- the link of an entry of the key's chain
  linked_at : (i : ℕ) → i < length keys → get_or (buckets count keys) i 0 ≡ bucket_of count key → IsLast (buckets count keys) (bucket_of count key) i (get_or links i 0)
  linked_at i l here =
      let e = size count keys in
      let P : ℕ → Type 0 = λ b. IsLast (buckets count keys) b i (get_or links i 0) in
      subst P here (chains.index.links_are i (omega arith))

  pub walk-head : (b at : ℕ) → b ≡ bucket_of count key → b < count → at ≡ get_or heads b at → IsWalking keys count key (length keys) at
  walk-head b at is below read =
      let e = size count keys in
      let P : ℕ → Type 0 = λ x. IsLast (buckets count keys) (bucket_of count key) (length keys) x in
      let Q : ℕ → Type 0 = λ x. IsLast (buckets count keys) x (length keys) (get_or heads b 0) in
      let R : ℕ → Type 0 = λ x. IsLast (buckets count keys) b x (get_or heads b 0) in
      starts (length keys) at (omega arith) (subst P (sym (read ∙ get_or_default_zero heads b at below)) (subst Q is (subst R e (chains.index.heads_are b below))))

  pub walk-link : (i at : ℕ) → slice_get keys i ≡ Some key → at ≡ get_or links i at → IsWalking keys count key i at
  walk-link i at here read =
      let l = within keys i key here in
      let linked = chains.index.linked in
      let e = size count keys in
      let P : ℕ → Type 0 = λ x. IsLast (buckets count keys) (bucket_of count key) i x in
      starts i at (omega arith) (subst P (sym (read ∙ get_or_default_zero links i at (omega arith))) (linked_at i l (bucket_at count keys key i here)))

  pub walk-on : (n at k next : ℕ) → IsWalking keys count key n at → 0 < at → k ≡ get_or keys (at - 1) k → k ≢ key → next ≡ get_or links (at - 1) next → IsWalking keys count key n next
  walk-on n at k next walk some read_key other read =
      let e = size count keys in
      let linked = chains.index.linked in
      let low = walk.chain.low in
      let most = walk.low in
      let P : ℕ → Type 0 = λ x. IsLast (buckets count keys) (bucket_of count key) (at - 1) x in
      let step = starts (at - 1) next (omega arith) (subst P (sym (read ∙ get_or_default_zero links (at - 1) next (omega arith))) (linked_at (at - 1) (omega arith) (walk.chain.here some))) in
      let less = step.low in
      record {
        chain = step.chain;
        low = omega arith;
        none = λ j from to h. three j from to h step.none;
      }
    where
      order : (j k : ℕ) → (j < k) ⊎ ((j ≡ k) ⊎ (k < j))
      order j k = grind arith

      by_order : (j : ℕ) → next ≤ j → j < n → slice_get keys j ≡ Some key → ((i : ℕ) → next ≤ i → i < at - 1 → slice_get keys i ≡ Some key → ⊥) → (j < at - 1) ⊎ ((j ≡ at - 1) ⊎ (at - 1 < j)) → ⊥
      by_order j from to h none (inl less) = none j from less h
      by_order j from to h none (inr (inl e)) = other (read_key ∙ get_or_from_slice_get keys (at - 1) key k (subst (λ i. slice_get keys i ≡ Some key) e h))
      by_order j from to h none (inr (inr more)) = walk.none j (omega arith) to h

      three : (j : ℕ) → next ≤ j → j < n → slice_get keys j ≡ Some key → ((i : ℕ) → next ≤ i → i < at - 1 → slice_get keys i ≡ Some key → ⊥) → ⊥
      three j from to h none = by_order j from to h none (order j (at - 1))

  pub walk-found : (n at k : ℕ) → IsWalking keys count key n at → 0 < at → k ≡ get_or keys (at - 1) k → k ≡ key → IsLastPlace keys key n (Some (at - 1))
  walk-found n at k walk some read is =
      let e = size count keys in
      let low = walk.chain.low in
      let most = walk.low in
      record {
        below = omega arith;
        here = got keys (at - 1) (omega arith) ∙ ap Some (sym (read ∙ get_or_default_zero keys (at - 1) k (omega arith)) ∙ is);
        last = λ j to h. by_order j to h (order j (at - 1));
      }
    where
      order : (j k : ℕ) → (j ≤ k) ⊎ (k < j)
      order j k = grind arith

      by_order : (j : ℕ) → j < n → slice_get keys j ≡ Some key → (j ≤ at - 1) ⊎ (at - 1 < j) → j ≤ at - 1
      by_order j to h (inl less) = less
      by_order j to h (inr more) = absurd (walk.none j (omega arith) to h)

  pub walk-ends : (n at : ℕ) → IsWalking keys count key n at → at ≡ 0 → IsLastPlace keys key n None
  walk-ends n at walk e = record {
    below = tt;
    here = tt;
    last = λ j to h. walk.none j (omega arith) to h;
  }
