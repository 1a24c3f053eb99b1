-- Sums over a list of views, and how often a place stands in a list.
use Rattle.std.proofs.Common.{◌≡◌, ◌≢◌, ℕ, zero, suc, ◌+◌, ◌<◌, ◌≤◌, eqb, List, [], ◌∷◌, ◌++◌, length, get_or, set, Option, Some, None, sym, refl, ap, arith, eq-eqb, ne_eqb}
use mathlib.Core.Option.{some, some-injective, some-ne-none}
use lib.ListN.{get_elem?}
use Rattle.foundation.specs.Tests.{one_if}
use Rattle.fact_lock.specs.Passes.{times, entries, places, AreApart}
use Rattle.fact_lock.specs.Rule.{total, new_places}

module _ {A : Type 0} (f : A → ℕ) where
  -- the sum after a change of one place
  pub total_set : (xs : List A) (i : ℕ) (v w : A) → get_elem? xs i ≡ some v → total f (set xs i w) + f v ≡ total f xs + f w
  total_set [] i v w e = absurd (some-ne-none v (sym e))
  total_set (x ∷ xs) zero v w e = let is : f x ≡ f v = ap f (some-injective x v e) in omega arith
  total_set (x ∷ xs) (suc i) v w e = let r = total_set xs i v w e in omega arith

  pub total-push : (xs : List A) (x : A) → total f (xs ++ x ∷ []) ≡ total f xs + f x
  total-push [] x = omega arith
  total-push (y ∷ ys) x = let r = total-push ys x in omega arith

  pub total_at : (xs : List A) (i : ℕ) (v : A) → get_elem? xs i ≡ some v → f v ≤ total f xs
  total_at [] i v e = absurd (some-ne-none v (sym e))
  total_at (x ∷ xs) zero v e = let is : f x ≡ f v = ap f (some-injective x v e) in omega arith
  total_at (x ∷ xs) (suc i) v e = let r = total_at xs i v e in omega arith

  pub total_two : (xs : List A) (i j : ℕ) (v w : A) → j ≢ i → get_elem? xs i ≡ some v → get_elem? xs j ≡ some w → f v + f w ≤ total f xs
  total_two [] i j v w apart e d = absurd (some-ne-none v (sym e))
  total_two (x ∷ xs) zero zero v w apart e d = absurd (apart refl)
  total_two (x ∷ xs) zero (suc j) v w apart e d = let is : f x ≡ f v = ap f (some-injective x v e) in let r = total_at xs j w d in omega arith
  total_two (x ∷ xs) (suc i) zero v w apart e d = let is : f x ≡ f w = ap f (some-injective x w d) in let r = total_at xs i v e in omega arith
  total_two (x ∷ xs) (suc i) (suc j) v w apart e d = let r = total_two xs i j v w (λ h. apart (ap suc h)) e d in omega arith

pub one_if_same : (n t : ℕ) → n ≡ t → one_if (eqb n t) ≡ 1
one_if_same n t e = ap one_if (eq-eqb n t e)

pub one_if_other : (n t : ℕ) → n ≢ t → one_if (eqb n t) ≡ 0
one_if_other n t e = ap one_if (ne_eqb n t e)

pub times-append : (p : ℕ) (xs ys : List ℕ) → times p (xs ++ ys) ≡ times p xs + times p ys
times-append p [] ys = omega arith
times-append p (x ∷ xs) ys = let r = times-append p xs ys in omega arith

-- a place that is new stands once more, and no other place does
pub new_place_here : (n k : ℕ) → k ≤ 1 → times n (new_places n k) ≡ k
new_place_here n zero h = refl
new_place_here n (suc zero) h = let e = one_if_same n n refl in omega arith
new_place_here n (suc (suc k)) h = absurd (omega arith)

pub new_place_else : (p n k : ℕ) → n ≢ p → times p (new_places n k) ≡ 0
new_place_else p n zero h = refl
new_place_else p n (suc k) h = let e = one_if_other n p h in omega arith

pub new_place_past : (p n k : ℕ) → n + k ≤ p → times p (new_places n k) ≡ 0
new_place_past p n zero h = refl
new_place_past p n (suc k) h = let e = one_if_other n p (λ is. omega arith) in omega arith

pub set_at : {A : Type 0} (xs : List A) (i : ℕ) (v w : A) → get_elem? xs i ≡ some v → get_elem? (set xs i w) i ≡ some w
set_at [] i v w e = absurd (some-ne-none v (sym e))
set_at (x ∷ xs) zero v w e = refl
set_at (x ∷ xs) (suc i) v w e = set_at xs i v w e

contains_times : (p : ℕ) (xs : List ℕ) (k : ℕ) → k < length xs → get_or xs k p ≡ p → 1 ≤ times p xs
contains_times p [] k below is = absurd (omega arith)
contains_times p (x ∷ xs) zero below is = let e = one_if_same x p is in omega arith
contains_times p (x ∷ xs) (suc k) below is = let r = contains_times p xs k (omega arith) is in omega arith

pub apart_by_times : (xs ys : List ℕ) → ((p : ℕ) → times p (xs ++ ys) ≤ 1) → AreApart xs ys
apart_by_times xs ys once p a b =
    let one = once p in
    let sum = times-append p xs ys in
    let left = contains_times p xs a.0 a.1 a.2 in
    let right = contains_times p ys b.0 b.1 b.2 in
    omega arith

pub few_entries : {E : Type 0} (o : Option E) → length (entries o) ≤ 1
few_entries None = omega arith
few_entries (Some e) = omega arith

pub places-new : {E : Type 0} (n : ℕ) (o : Option E) → new_places n (length (entries o)) ≡ places n o
places-new n None = refl
places-new n (Some e) = refl
