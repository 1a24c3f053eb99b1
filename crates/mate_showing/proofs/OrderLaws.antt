-- A list with one of its elements put first.
use Rattle.std.proofs.Common.{◌≡◌, ◌∙◌, ℕ, zero, suc, ◌-◌, ◌<◌, ◌≤◌, List, [], ◌∷◌, ◌++◌, length, take, drop, get_or, slice_get, Option, Some, None, Ok, OnOk, refl, ap, sym, subst, arith}
use Rattle.std.specs.declared.result.Result.{Result}
use Rattle.std.specs.List.{remove}
use Rattle.std.specs.Option.{IfSome}
use Rattle.std.proofs.lemmas.List.Sorted.{IsPermutation-remove}
use Rattle.foundation.specs.Member.{Lists, Member}
use Rattle.rules_model.specs.declared.moves.Move.{Move}
use Rattle.mate_settle.proofs.OrderLaws.{lists-permuted}
use Rattle.mate_showing.specs.Fronts.{ComesFirst, with_first}

module _ {X : Type 0} where
  -- what is read at a place, and what the list is without it
  pub record IsAt (xs : List X) (at : ℕ) (x : X) : Type 0 where
    pub within : at < length xs
    pub value : x ≡ get_or xs at x
    pub long : length (take (suc at) xs) ≡ suc at
    pub last : drop at (take (suc at) xs) ≡ x ∷ []
    pub before : take at (take (suc at) xs) ≡ take at xs

  pub is-at : (xs : List X) (at : ℕ) (x : X) → slice_get xs at ≡ Some x → IsAt xs at x
  is-at [] at x e = cc
  is-at (y ∷ xs) zero x e =
      let same : y ≡ x = (let h : ◌≡◌ {A = Option X} (Some y) (Some x) = e in cc) in
      record { within = omega arith; value = sym same; long = refl; last = ap (λ z. z ∷ []) same; before = refl }
  is-at (y ∷ xs) (suc at) x e =
      let k = is-at xs at x e in
      let within = k.within in
      record { within = omega arith; value = k.value; long = ap (λ n. suc n) k.long; last = k.last; before = ap (λ zs. y ∷ zs) k.before }

  -- where nothing is at the place, nothing is removed
  none-at : (xs : List X) (at : ℕ) → slice_get xs at ≡ None → remove xs at ≡ xs
  none-at [] zero e = refl
  none-at [] (suc at) e = refl
  none-at (y ∷ xs) zero e = cc
  none-at (y ∷ xs) (suc at) e = ap (λ zs. y ∷ zs) (none-at xs at e)

  past-end : (xs : List X) (at : ℕ) → length xs ≤ at → slice_get xs at ≡ None
  past-end [] at h = refl
  past-end (y ∷ xs) zero h = absurd (omega arith)
  past-end (y ∷ xs) (suc at) h = past-end xs at (omega arith)

  pub first-past : (xs : List X) (at : ℕ) → length xs ≤ at → with_first (Some at) xs ≡ xs
  first-past xs at h = let e = past-end xs at h in rw (e, none-at xs at e)

  -- the part up to the place is turned by one
  pub first-turned : (xs ys : List X) (at n : ℕ) (x : X) → slice_get xs at ≡ Some x → n ≡ suc at → ys ≡ drop (length (take n xs) - 1) (take n xs) ++ take (length (take n xs) - 1) (take n xs) → ys ++ drop n xs ≡ with_first (Some at) xs
  first-turned xs ys at n x e is turn =
      let k = is-at xs at x e in
      let one : length (take n xs) - 1 ≡ at = (let l = ap (λ j. length (take j xs)) is ∙ k.long in omega arith) in
      let parts : ys ≡ drop at (take (suc at) xs) ++ take at (take (suc at) xs) = turn ∙ (λ i. drop (one i) (take (is i) xs) ++ take (one i) (take (is i) xs)) in
      let whole : ys ++ drop n xs ≡ (drop at (take (suc at) xs) ++ take at (take (suc at) xs)) ++ drop (suc at) xs = (λ i. parts i ++ drop (is i) xs) in
      whole ∙ rw (e, k.last, k.before)

  -- what is written over a whole list
  written : (xs ys : List X) (n : ℕ) → length xs ≡ length ys → n ≡ length ys → take n (xs ++ drop (length xs) ys) ≡ xs
  written [] [] zero e is = refl
  written [] [] (suc n) e is = refl
  written [] (y ∷ ys) n e is = absurd (omega arith)
  written (x ∷ xs) [] n e is = absurd (omega arith)
  written (x ∷ xs) (y ∷ ys) zero e is = absurd (omega arith)
  written (x ∷ xs) (y ∷ ys) (suc n) e is = ap (λ zs. x ∷ zs) (written xs ys n (omega arith) (omega arith))

  pub first-read : (xs : List X) (at : ℕ) (x : X) → slice_get xs at ≡ Some x → slice_get (with_first (Some at) xs) 0 ≡ Some x
  first-read xs at x e = rw e

  -- a list over which one of its elements was put first
  pub written-first : (xs ys old : List X) (place : Option ℕ) (n : ℕ) → old ≡ xs → ys ≡ with_first place old → length ys ≡ length old → n ≡ length xs → take n (ys ++ drop (length ys) xs) ≡ with_first place xs
  written-first xs ys old place n same is kept whole = written ys xs n (kept ∙ ap (λ zs. length zs) same) whole ∙ is ∙ ap (λ zs. with_first place zs) same

  -- the named one comes first
  pub first-named : (all xs : List X) (x : X) (place : Option ℕ) → (Member x all → Member x xs) → IfSome place (λ at. slice_get xs at ≡ Some x) → (place ≡ None → Member x xs → ⊥) → ComesFirst all (with_first place xs) x
  first-named all xs x None among here none = λ m. absurd (none refl (among m))
  first-named all xs x (Some at) among here none = λ m. first-read xs at x here

pub lists-first : (P : Move → Type 0) (ms : List Move) (place : Option ℕ) → Lists P ms → Lists P (with_first place ms)
lists-first P ms None all = all
lists-first P ms (Some at) all = by_read (slice_get ms at) refl
  where
    by_read : (o : Option Move) → slice_get ms at ≡ o → Lists P (with_first (Some at) ms)
    by_read None e = let kept : with_first (Some at) ms ≡ ms = rw (e, none-at ms at e) in subst (Lists P) (sym kept) all
    by_read (Some m) e =
        let k = is-at ms at m e in
        let moved : with_first (Some at) ms ≡ m ∷ remove ms at = rw e in
        subst (Lists P) (sym moved) (lists-permuted P ms (m ∷ remove ms at) (IsPermutation-remove ms at m k.within k.value) all)

-- what holds of an answer that came
pub from_ok : {T E P : Type 0} (r : Result T E) (x : T) → r ≡ Ok x → OnOk r P → P
from_ok {T = T} {E = E} {P = P} r x e h = subst (λ (q : Result T E). OnOk q P) e h
