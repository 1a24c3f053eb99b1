-- What tests find and count in lists.
use Rattle.std.proofs.Common.{◌≡◌, ℕ, suc, ◌+◌, ◌<◌, ◌≤◌, Bool, true, false, ◌||◌, cond, is_some, List, [], ◌∷◌, Option, Some, None, length, get_or, refl, sym, ap, ◌∙◌, arith, count_by}
use Rattle.std.specs.List.{find, list_any}
use Rattle.std.specs.Option.{option_map, option_or}
use Rattle.std.proofs.lemmas.Bool.{both_ways, or_left, or_parts, or_right}
use Rattle.std.proofs.lemmas.List.Folds.{list_any_none}
use Rattle.foundation.specs.Tests.{one_if}
use Rattle.foundation.proofs.SetLemmas.{count_by-cons}

-- ---- options

pub no_either : {X : Type 0} (a b : Option X) → option_or a b ≡ None → (a ≡ None) × (b ≡ None)
no_either None b e = (refl, e)
no_either (Some x) b e = cc

pub not_some : {X : Type 0} (o : Option X) → is_some o ≡ false → o ≡ None
not_some None e = refl
not_some (Some x) e = cc

pub none_mapped : {X Y : Type 0} (f : X → Y) (o : Option X) → option_map f o ≡ None → o ≡ None
none_mapped f None e = refl
none_mapped f (Some x) e = cc

pub option_map-same : {X Y : Type 0} (f g : X → Y) (o : Option X) → ((x : X) → o ≡ Some x → f x ≡ g x)
    → option_map f o ≡ option_map g o
option_map-same f g None same = refl
option_map-same f g (Some x) same = ap (λ y. Some y) (same x refl)

-- ---- what is found

some_step : {X : Type 0} (b : Bool) (x : X) (found : Option X) (any : Bool) → any ≡ is_some found
    → (b || any) ≡ is_some (cond b (Some x) found)
some_step true x found any e = refl
some_step false x found any e = e

-- something is found where some element passes
pub list_any_found : {X : Type 0} (test : X → Bool) (xs : List X) → list_any test xs ≡ is_some (find test xs)
list_any_found test [] = refl
list_any_found test (x ∷ xs) = some_step (test x) x (find test xs) (list_any test xs) (list_any_found test xs)

passes_step : {X : Type 0} (test : X → Bool) (b : Bool) (y x : X) (found : Option X) → test y ≡ b
    → (found ≡ Some x → test x ≡ true) → cond b (Some y) found ≡ Some x → test x ≡ true
passes_step test true y x found e rest h = let same : y ≡ x = cc in ap test (sym same) ∙ e
passes_step test false y x found e rest h = rest h

-- what is found passes
pub found_passes : {X : Type 0} (test : X → Bool) (xs : List X) (x : X) → find test xs ≡ Some x → test x ≡ true
found_passes test [] x h = cc
found_passes test (y ∷ ys) x h = passes_step test (test y) y x (find test ys) refl (found_passes test ys x) h

any_step : {X : Type 0} (other : X → Bool) (b : Bool) (y x : X) (found : Option X) (rest : Bool)
    → (found ≡ Some x → rest ≡ true) → cond b (Some y) found ≡ Some x → other x ≡ true → (other y || rest) ≡ true
any_step other true y x found rest h e passes = let same : y ≡ x = cc in or_left (other y) rest (ap other same ∙ passes)
any_step other false y x found rest h e passes = or_right (other y) rest (h e)

-- what is found is in the list, so another test that it passes has an element that passes
pub found_in : {X : Type 0} (test other : X → Bool) (xs : List X) (x : X) → find test xs ≡ Some x → other x ≡ true
    → list_any other xs ≡ true
found_in test other [] x e passes = cc
found_in test other (y ∷ ys) x e passes =
    any_step other (test y) y x (find test ys) (list_any other ys) (λ found. found_in test other ys x found passes)
    e passes

-- two tests give one answer at each element
abbrev pub Agree : {X : Type 0} → (X → Bool) → (X → Bool) → List X → X → Type 0
Agree p q xs d = (i : ℕ) → i < length xs → p (get_or xs i d) ≡ q (get_or xs i d)

agree_behind : {X : Type 0} (p q : X → Bool) (x : X) (xs : List X) (d : X) → Agree p q (x ∷ xs) d → Agree p q xs d
agree_behind p q x xs d same = λ i l. same (suc i) (omega (arith, l))

pub find-same : {X : Type 0} (p q : X → Bool) (xs : List X) (d : X) → Agree p q xs d → find p xs ≡ find q xs
find-same p q [] d same = refl
find-same p q (x ∷ xs) d same =
    ap (λ b. cond b (Some x) (find p xs)) (same 0 (omega arith))
    ∙ ap (λ found. cond (q x) (Some x) found) (find-same p q xs d (agree_behind p q x xs d same))

-- ---- counts

module _ {X : Type 0} where
  pub count_by-same : (p q : X → Bool) (xs : List X) (d : X) → Agree p q xs d → count_by p xs ≡ count_by q xs
  count_by-same p q [] d same = refl
  count_by-same p q (x ∷ xs) d same =
      let here : one_if (p x) ≡ one_if (q x) = ap one_if (same 0 (omega arith)) in
      let rest = count_by-same p q xs d (agree_behind p q x xs d same) in
      omega (arith, count_by-cons p x xs, count_by-cons q x xs, here, rest)

  -- no element passes
  pub count_by-none : (p : X → Bool) (xs : List X) → list_any p xs ≡ false → count_by p xs ≡ 0
  count_by-none p [] none = refl
  count_by-none p (x ∷ xs) none =
      let parts = or_parts (p x) (list_any p xs) none in
      let here : one_if (p x) ≡ 0 = ap one_if parts.0 in
      omega (arith, count_by-cons p x xs, here, count_by-none p xs parts.1)

  pub count_by-never : (p : X → Bool) (xs : List X) → ((x : X) → p x ≡ false) → count_by p xs ≡ 0
  count_by-never p xs never = count_by-none p xs (list_any_none p xs (λ k d l. never (get_or xs k d)))

one_or : (a b c : Bool) → (a ≡ true → (b || c) ≡ true) → one_if a ≤ one_if b + one_if c
one_or false b c h = omega arith
one_or true true c h = omega arith
one_or true false true h = omega arith
one_or true false false h = absurd (both_ways false refl (h refl))

-- what passes one test passes one of two others
pub count_by-or : {X : Type 0} (p q r : X → Bool) (xs : List X) → ((x : X) → p x ≡ true → (q x || r x) ≡ true)
    → count_by p xs ≤ count_by q xs + count_by r xs
count_by-or p q r [] h = omega arith
count_by-or p q r (x ∷ xs) h =
    let here = one_or (p x) (q x) (r x) (h x) in
    omega (arith, count_by-cons p x xs, count_by-cons q x xs, count_by-cons r x xs, here, count_by-or p q r xs h)
