-- How often a repeat stands in a game.
use Rattle.std.proofs.Common.{◌≡◌, ◌⊎◌, inl, inr, ℕ, ◌+◌, ◌<◌, ◌≤◌, List, [], ◌∷◌, ◌++◌, Bool, true, false, Option, Some, None, cond, nat_le, nat_lt, ◌==◌, ◌&&◌, refl, ap, sym, ◌∙◌, arith}
use Rattle.std.proofs.lemmas.Bool.Decides.{nat_tests}
use Rattle.std.proofs.lemmas.List.Sums.{sum_by-cons, sum_by-append}
use Rattle.foundation.specs.Member.{Member}
use Rattle.forced_wins.specs.Games.{Game, GameLaws, times}

pub by_cases : {C : Type 0} (b : Bool) → (b ≡ true → C) → (b ≡ false → C) → C
by_cases true f g = f refl
by_cases false f g = g refl

pub not_true : (b : Bool) → (b ≡ true → ⊥) → b ≡ false
not_true true h = absurd (h refl)
not_true false h = refl

pub true_false : (b : Bool) → b ≡ true → b ≡ false → ⊥
true_false true h k = cc
true_false false h k = cc

pub own_cases : {C : Type 0} (o : Option Bool) → ((w : Bool) → o ≡ Some w → C) → (o ≡ None → C) → C
own_cases None f g = g refl
own_cases (Some w) f g = f w refl

pub and_true : (a b : Bool) → a ≡ true → b ≡ true → (a && b) ≡ true
and_true a b h k = grind arith

pub le_true : (m n : ℕ) → m ≤ n → nat_le m n ≡ true
le_true m n h = grind (arith, nat_tests)

pub eq_from : (m n : ℕ) → (m == n) ≡ true → m ≡ n
eq_from m n h = grind (arith, nat_tests)

pub eq_to : (m n : ℕ) → m ≡ n → (m == n) ≡ true
eq_to m n h = grind (arith, nat_tests)

-- two tests of one fact are one
pub same_from : (a b : Bool) → (a ≡ true → b ≡ true) → (b ≡ true → a ≡ true) → a ≡ b
same_from true true f g = refl
same_from true false f g = sym (f refl)
same_from false true f g = g refl
same_from false false f g = refl

-- a rule by a number that may be off
pub tests_on : (a x : ℕ) → 0 < a → a ≤ x → (nat_lt 0 a && nat_le a x) ≡ true
tests_on a x h k = grind (arith, nat_tests)

pub tests_from : (a x : ℕ) → (nat_lt 0 a && nat_le a x) ≡ true → (0 < a) × (a ≤ x)
tests_from a x h = (is_on a x h, is_reached a x h)
  where
    is_on : (a x : ℕ) → (nat_lt 0 a && nat_le a x) ≡ true → 0 < a
    is_on a x h = grind (arith, nat_tests)

    is_reached : (a x : ℕ) → (nat_lt 0 a && nat_le a x) ≡ true → a ≤ x
    is_reached a x h = grind (arith, nat_tests)

pub tests_more : (a x y : ℕ) → x ≤ y → (nat_lt 0 a && nat_le a x) ≡ true → (nat_lt 0 a && nat_le a y) ≡ true
tests_more a x y h e = grind (arith, nat_tests)

pub tests_none : (a x : ℕ) → (a ≡ 0) ⊎ (x < a) → (nat_lt 0 a && nat_le a x) ≡ false
tests_none a x (inl h) = grind (arith, nat_tests)
tests_none a x (inr h) = grind (arith, nat_tests)

pub tests_less : (a x y : ℕ) → x ≤ y → (nat_lt 0 a && nat_le a y) ≡ false → (nat_lt 0 a && nat_le a x) ≡ false
tests_less a x y h e = not_true (nat_lt 0 a && nat_le a x) (λ k. let u = tests_more a x y h k in cc)

pub below_fold : (a x : ℕ) → (nat_lt 0 a && nat_le a x) ≡ false → 0 < a → x < a
below_fold a x h k = grind (arith, nat_tests)

pub none_stand : {P R M : Type 0} (r : Game P R M) (x : R) → times r x [] ≡ 0
unfolding times
none_stand r x = refl

module _ {P R M : Type 0} (r : Game P R M) (l : GameLaws P R M r) where
  pub times-test : (x : R) (p : P) (ps : List P) (b : Bool) → r.same (r.repeat p) x ≡ b → times r x (p ∷ ps) ≡ times r x ps + cond b 1 0
  unfolding times
  times-test x p ps b e =
      let h = sum_by-cons (λ q. cond (r.same (r.repeat q) x) 1 0) p ps in
      let c : ◌≡◌ {A = ℕ} (cond (r.same (r.repeat p) x) 1 0) (cond b 1 0) = ap (λ t. cond t 1 0) e in omega arith

  -- a repeat that none of the positions has
  pub times_none : (x : R) (ps : List P) → ((q : P) → Member q ps → r.repeat q ≡ x → ⊥) → times r x ps ≡ 0
  times_none x [] f = none_stand r x
  times_none x (p ∷ ps) f =
      let h = times-test x p ps false (not_true (r.same (r.repeat p) x) (λ t. f p (inl refl) ((l.decides (r.repeat p) x).0 t))) in
      let k = times_none x ps (λ q m. f q (inr m)) in omega arith

  times-push : (x : R) (p : P) (ps : List P) → times r x (ps ++ p ∷ []) ≡ times r x ps + cond (r.same (r.repeat p) x) 1 0
  unfolding times
  times-push x p ps = let h = sum_by-append (λ q. cond (r.same (r.repeat q) x) 1 0) ps (p ∷ []) in omega arith

  at_test : (x : R) (p : P) (ps : List P) (b : Bool) → r.same (r.repeat p) x ≡ b → times r x (ps ++ p ∷ []) ≡ times r x ps + cond b 1 0
  at_test x p ps b e = times-push x p ps ∙ ap (λ c. times r x ps + cond c 1 0) e

  pub times_here : (x : R) (p : P) (ps : List P) → r.repeat p ≡ x → times r x (ps ++ p ∷ []) ≡ times r x ps + 1
  times_here x p ps e = at_test x p ps true ((l.decides (r.repeat p) x).1 e)

  pub times_other : (x : R) (p : P) (ps : List P) → (r.repeat p ≡ x → ⊥) → times r x (ps ++ p ∷ []) ≡ times r x ps
  times_other x p ps f = let h = at_test x p ps false (not_true (r.same (r.repeat p) x) (λ e. f ((l.decides (r.repeat p) x).0 e))) in omega arith

  pub times_more : (x : R) (p : P) (ps : List P) → times r x ps ≤ times r x (ps ++ p ∷ [])
  times_more x p ps = let h = times-push x p ps in omega arith
