-- Lists gathered, thinned and searched.
use Rattle.std.proofs.Common.{◌≡◌, ◌⊎◌, inl, inr, ℕ, zero, suc, List, [], ◌∷◌, ◌++◌, map, Bool, true, false, Some, if◌then◌else◌, slice_get, refl, ap, sym, ◌∙◌, subst}
use Rattle.std.specs.List.{list_any}
use Rattle.std.specs.Bool.{Decides}
use Rattle.foundation.specs.Member.{Member}
use Rattle.forced_wins.proofs.Counts.{by_cases}

pub in_left : {X : Type 0} (x : X) (xs ys : List X) → Member x xs → Member x (xs ++ ys)
in_left x [] ys k = absurd k
in_left x (y ∷ xs) ys (inl e) = inl e
in_left x (y ∷ xs) ys (inr k) = inr (in_left x xs ys k)

pub in_right : {X : Type 0} (x : X) (xs ys : List X) → Member x ys → Member x (xs ++ ys)
in_right x [] ys k = k
in_right x (y ∷ xs) ys k = inr (in_right x xs ys k)

in_either : {X : Type 0} (x : X) (xs ys : List X) → Member x (xs ++ ys) → Member x xs ⊎ Member x ys
in_either x [] ys k = inr k
in_either x (y ∷ xs) ys (inl e) = inl (inl e)
in_either x (y ∷ xs) ys (inr k) = widen (in_either x xs ys k)
  where
    widen : Member x xs ⊎ Member x ys → Member x (y ∷ xs) ⊎ Member x ys
    widen (inl k) = inl (inr k)
    widen (inr k) = inr k

-- two different numbers, each at one place
pub two : (m n : ℕ) → (m ≡ n → ⊥) → (i j c : ℕ) → slice_get (m ∷ n ∷ []) i ≡ Some c → slice_get (m ∷ n ∷ []) j ≡ Some c → i ≡ j
two m n d zero zero c a b = refl
two m n d zero (suc zero) c a b = absurd (d (let e : m ≡ c = cc in let f : n ≡ c = cc in cc))
two m n d zero (suc (suc j)) c a b = cc
two m n d (suc zero) zero c a b = absurd (d (let e : m ≡ c = cc in let f : n ≡ c = cc in cc))
two m n d (suc zero) (suc zero) c a b = refl
two m n d (suc zero) (suc (suc j)) c a b = cc
two m n d (suc (suc i)) j c a b = cc

-- the lists of the elements that pass, end to end
pub gather : {X Y : Type 0} → (Y → Bool) → (Y → List X) → List Y → List X
gather t f [] = []
gather t f (y ∷ ys) = (if t y then f y else []) ++ gather t f ys

pub gather_in : {X Y : Type 0} (t : Y → Bool) (f : Y → List X) (ys : List Y) (y : Y) (x : X) → Member y ys → t y ≡ true → Member x (f y) → Member x (gather t f ys)
unfolding gather
gather_in t f [] y x k h m = absurd k
gather_in t f (z ∷ ys) y x (inl e) h m =
    let a : t z ≡ true = ap t e ∙ h in
    in_left x (if t z then f z else []) (gather t f ys) (rw a (subst (λ u. Member x (f u)) (sym e) m))
gather_in t f (z ∷ ys) y x (inr k) h m = in_right x (if t z then f z else []) _ (gather_in t f ys y x k h m)

from_if : {X : Type 0} (b : Bool) (xs : List X) (x : X) → Member x (if b then xs else []) → (b ≡ true) × Member x xs
from_if true xs x k = (refl, k)
from_if false xs x k = absurd k

gathered_more : {X Y : Type 0} (t : Y → Bool) (f : Y → List X) (z : Y) (ys : List Y) (x : X) → Member x (if t z then f z else []) ⊎ Member x (gather t f ys) → (Member x (gather t f ys) → (y : Y) × Member y ys × (t y ≡ true) × Member x (f y)) → (y : Y) × Member y (z ∷ ys) × (t y ≡ true) × Member x (f y)
gathered_more t f z ys x (inl m) g = let u = from_if (t z) (f z) x m in (z, inl refl, u.0, u.1)
gathered_more t f z ys x (inr m) g = let u = g m in (u.0, inr u.1, u.2, u.3)

pub gathered : {X Y : Type 0} (t : Y → Bool) (f : Y → List X) (ys : List Y) (x : X) → Member x (gather t f ys) → (y : Y) × Member y ys × (t y ≡ true) × Member x (f y)
unfolding gather
gathered t f [] x k = absurd k
gathered t f (z ∷ ys) x k = gathered_more t f z ys x (in_either x (if t z then f z else []) (gather t f ys) k) (gathered t f ys x)

-- the first that passes, alone
pub first_of_all : {X : Type 0} → (X → Bool) → List X → List X
first_of_all t [] = []
first_of_all t (x ∷ xs) = if t x then x ∷ [] else first_of_all t xs

pub found : {X : Type 0} (t : X → Bool) (xs : List X) → list_any t xs ≡ true → (x : X) × (first_of_all t xs ≡ x ∷ []) × Member x xs × (t x ≡ true)
unfolding first_of_all
found t [] h = cc
found t (x ∷ xs) h = by_cases (t x) (λ e. (x, rw e, inl refl, e)) (λ e. let k : list_any t xs ≡ true = rw e at h in let u = found t xs k in let v = u.1 in (u.0, rw (e, v), inr u.2, u.3))

pub listed : {X : Type 0} (xs : List X) (i : ℕ) (x : X) → slice_get xs i ≡ Some x → Member x xs
listed [] i x h = cc
listed (y ∷ ys) zero x h = inl cc
listed (y ∷ ys) (suc i) x h = inr (listed ys i x h)

pub mapped : {X Y : Type 0} (f : X → Y) (xs : List X) (i : ℕ) (y : Y) → slice_get (map f xs) i ≡ Some y → (x : X) × (slice_get xs i ≡ Some x) × (f x ≡ y)
mapped f [] i y h = cc
mapped f (x ∷ xs) zero y h = (x, refl, cc)
mapped f (x ∷ xs) (suc i) y h = mapped f xs i y h

pub map_at : {X Y : Type 0} (f : X → Y) (xs : List X) (i : ℕ) (x : X) → slice_get xs i ≡ Some x → slice_get (map f xs) i ≡ Some (f x)
map_at f [] i x h = cc
map_at f (y ∷ xs) zero x h = ap (λ z. Some (f z)) (let e : y ≡ x = cc in e)
map_at f (y ∷ xs) (suc i) x h = map_at f xs i x h

pub map_member : {X Y : Type 0} (f : X → Y) (xs : List X) (y : Y) → Member y (map f xs) → (x : X) × Member x xs × (f x ≡ y)
map_member f [] y k = absurd k
map_member f (x ∷ xs) y (inl e) = (x, inl refl, e)
map_member f (x ∷ xs) y (inr k) = let u = map_member f xs y k in (u.0, inr u.1, u.2)

pub map_in : {X Y : Type 0} (f : X → Y) (xs : List X) (x : X) → Member x xs → Member (f x) (map f xs)
map_in f [] x k = absurd k
map_in f (y ∷ xs) x (inl e) = inl (ap f e)
map_in f (y ∷ xs) x (inr k) = inr (map_in f xs x k)

module _ {P R : Type 0} (same : R → R → Bool) (d : (a b : R) → Decides (same a b) (a ≡ b)) (key : P → R) where
  pub without : R → List P → List P
  without x [] = []
  without x (y ∷ ys) = if same (key y) x then without x ys else y ∷ without x ys

  -- each key by its first element
  pub once : List P → List P
  once [] = []
  once (x ∷ xs) = x ∷ without (key x) (once xs)

  heads : (x : R) (z : P) (ys : List P) (y : P) → Member y (z ∷ without x ys) → same (key z) x ≡ false → (Member y (without x ys) → Member y ys × (key y ≡ x → ⊥)) → Member y (z ∷ ys) × (key y ≡ x → ⊥)
  heads x z ys y (inl h) e f = (inl h, λ s. let t = (d (key z) x).1 (ap key h ∙ s) in cc)
  heads x z ys y (inr m) e f = let u = f m in (inr u.0, u.1)

  pub without_in : (x : R) (ys : List P) (y : P) → Member y (without x ys) → Member y ys × (key y ≡ x → ⊥)
  unfolding without
  without_in x [] y k = absurd k
  without_in x (z ∷ ys) y k =
      by_cases (same (key z) x)
      (λ e. let m : Member y (without x ys) = subst (λ b. Member y (if b then without x ys else z ∷ without x ys)) e k in let u = without_in x ys y m in (inr u.0, u.1))
      (λ e. let m : Member y (z ∷ without x ys) = subst (λ b. Member y (if b then without x ys else z ∷ without x ys)) e k in heads x z ys y m e (without_in x ys y))

  pub in_without : (x : R) (ys : List P) (y : P) → Member y ys → (key y ≡ x → ⊥) → Member y (without x ys)
  unfolding without
  in_without x [] y k n = absurd k
  in_without x (z ∷ ys) y (inl h) n = by_cases (same (key z) x) (λ e. absurd (n (sym (ap key h) ∙ (d (key z) x).0 e))) (λ e. rw e (inl h))
  in_without x (z ∷ ys) y (inr k) n = by_cases (same (key z) x) (λ e. rw e (in_without x ys y k n)) (λ e. rw e (inr (in_without x ys y k n)))

  pub once_in : (xs : List P) (y : P) → Member y (once xs) → Member y xs
  unfolding once
  once_in [] y k = k
  once_in (x ∷ xs) y (inl e) = inl e
  once_in (x ∷ xs) y (inr k) = inr (once_in xs y (without_in (key x) (once xs) y k).0)

  pub in_once : (xs : List P) (y : P) → Member y xs → (z : P) × Member z (once xs) × (key z ≡ key y)
  unfolding once
  in_once [] y k = absurd k
  in_once (x ∷ xs) y (inl e) = (x, inl refl, ap key e)
  in_once (x ∷ xs) y (inr k) =
      let u = in_once xs y k in
      by_cases (same (key u.0) (key x))
      (λ e. (x, inl refl, sym ((d (key u.0) (key x)).0 e) ∙ u.2))
      (λ e. (u.0, inr (in_without (key x) (once xs) u.0 u.1 (λ s. let t = (d (key u.0) (key x)).1 s in cc)), u.2))

  -- no two elements have one key
  abbrev pub Apart : List P → Type 0
  Apart [] = Unit {0}
  Apart (y ∷ ys) = ((z : P) → Member z ys → key z ≡ key y → ⊥) × Apart ys

  apart_without : (x : R) (ys : List P) → Apart ys → Apart (without x ys)
  unfolding without
  apart_without x [] a = tt
  apart_without x (y ∷ ys) a =
      by_cases (same (key y) x)
      (λ e. rw e (apart_without x ys a.1))
      (λ e. rw e (λ z k. a.0 z (without_in x ys z k).0, apart_without x ys a.1))

  pub apart_once : (xs : List P) → Apart (once xs)
  unfolding once
  apart_once [] = tt
  apart_once (x ∷ xs) = (λ z k. (without_in (key x) (once xs) z k).1, apart_without (key x) (once xs) (apart_once xs))

  pub apart_alone : (ys : List P) → Apart ys → (i j : ℕ) (y z : P) → slice_get ys i ≡ Some y → slice_get ys j ≡ Some z → key y ≡ key z → i ≡ j
  apart_alone [] a i j y z p q s = cc
  apart_alone (x ∷ ys) a zero zero y z p q s = refl
  apart_alone (x ∷ ys) a zero (suc j) y z p q s = let e : x ≡ y = cc in absurd (a.0 z (listed ys j z q) (sym s ∙ sym (ap key e)))
  apart_alone (x ∷ ys) a (suc i) zero y z p q s = let e : x ≡ z = cc in absurd (a.0 y (listed ys i y p) (s ∙ sym (ap key e)))
  apart_alone (x ∷ ys) a (suc i) (suc j) y z p q s = ap suc (apart_alone ys a.1 i j y z p q s)

  -- the first place of a key
  pub place : R → List P → ℕ
  place x [] = 0
  place x (y ∷ ys) = if same (key y) x then 0 else suc (place x ys)

  pub at_place : (x : R) (ys : List P) (z : P) → Member z ys → key z ≡ x → (y : P) × (slice_get ys (place x ys) ≡ Some y) × (key y ≡ x)
  unfolding place
  at_place x [] z k e = absurd k
  at_place x (y ∷ ys) z (inl h) e = let t = (d (key y) x).1 (ap key h ∙ e) in (y, rw t, ap key h ∙ e)
  at_place x (y ∷ ys) z (inr k) e =
      by_cases (same (key y) x)
      (λ t. (y, rw t, (d (key y) x).0 t))
      (λ t. let u = at_place x ys z k e in let v = u.1 in (u.0, rw t v, u.2))
