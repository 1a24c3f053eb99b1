-- Laws of counts: of two tests of which one passes nearly where the other does, and of a set of squares that come before another.
use Rattle.std.proofs.Common.{◌≡◌, ◌≢◌, ℕ, zero, suc, ◌+◌, ◌-◌, ◌<◌, ◌≤◌, nat_lt, Bool, true, false, ◌&&◌, not, ◌==◌, if◌then◌else◌, refl, ap, sym, ◌∙◌, arith}
use Rattle.std.proofs.lemmas.Bool.{and_parts, eq-eqb, false_from_ne_true, le-ltb, lt-ltb, ne_eqb}
use Rattle.std.proofs.Math.Bool.{and-false, and-true}
use Rattle.foundation.specs.Tests.{one_if}
use Rattle.square_set.specs.Members.{before, count_below, place}
use Rattle.square_set.proofs.Cases.{by_bool, by_equal, by_order}
use Rattle.square_set.proofs.CountLaws.{before-at, before-none, count_below-cut, count_below-same, count_below-shift, count_below-suc, count_below-without, count_below-zero, place-lt, place-place}

step_le : (a b : ℕ) (x y : Bool) → a ≤ b → (x ≡ true → y ≡ true) → a + (if x then 1 else 0) ≤ b + (if y then 1 else 0)
step_le a b true y l h = rw (h refl) (omega (arith, l))
step_le a b false true l h = omega (arith, l)
step_le a b false false l h = omega (arith, l)

-- a test that passes where the other does
pub count_below-le : (f g : ℕ → Bool) (n : ℕ) → ((k : ℕ) → k < n → f k ≡ true → g k ≡ true) → count_below f n ≤ count_below g n
count_below-le f g zero h = let a = count_below-zero f in let b = count_below-zero g in omega (arith, a, b)
count_below-le f g (suc n) h =
    let a = count_below-suc f n in
    let b = count_below-suc g n in
    rw (a, b) (step_le (count_below f n) (count_below g n) (f n) (g n) (count_below-le f g n (λ k l. h k (omega (arith, l)))) (h n (omega arith)))

-- one that does so but for one number
pub count_below-one_less : (f g : ℕ → Bool) (n p : ℕ) → ((k : ℕ) → k < n → k ≢ p → f k ≡ true → g k ≡ true) → count_below f n ≤ count_below g n + 1
count_below-one_less f g n p h =
    by_order p n (count_below f n ≤ count_below g n + 1)
    (λ l. by_bool (f p) (count_below f n ≤ count_below g n + 1)
    (λ e.
    let one = count_below-without f (λ t. f t && not (t == p)) n p (λ t. refl) e l in
    let rest = count_below-le (λ t. f t && not (t == p)) g n (λ k q t. let u = and_parts (f k) (not (k == p)) t in h k q (λ s. let same = eq-eqb k p s in cc) u.0) in
    omega (arith, one, rest))
    (λ e. let all = count_below-le f g n (λ k q t. h k q (λ s. cc) t) in omega (arith, all)))
    (λ l. let all = count_below-le f g n (λ k q t. h k q (λ s. omega (arith, s, q, l)) t) in omega (arith, all))

module _ (rising : Bool) (f g : ℕ → Bool) (t : ℕ) (small : t < 128) where
  pub before-le : ((u : ℕ) → u < 128 → place rising u < place rising t → f u ≡ true → g u ≡ true) → before rising f t ≤ before rising g t
  before-le h =
      let m = place-lt rising t small in
      count_below-le (λ i. f (place rising i)) (λ i. g (place rising i)) (place rising t) (λ k l e.
      let low : k < 128 = omega (arith, m, l) in let back = place-place rising k low in h (place rising k) (place-lt rising k low) (rw back l) e)

  -- tests that agree at the squares that come before
  pub before-alike : ((u : ℕ) → u < 128 → place rising u < place rising t → f u ≡ g u) → before rising f t ≡ before rising g t
  before-alike h =
      let m = place-lt rising t small in
      count_below-same (λ i. f (place rising i)) (λ i. g (place rising i)) (place rising t) (λ k l.
      let low : k < 128 = omega (arith, m, l) in let back = place-place rising k low in h (place rising k) (place-lt rising k low) (rw back l))

  pub before-one_less : (p : ℕ) → p < 128 → ((u : ℕ) → u ≢ p → f u ≡ true → g u ≡ true) → before rising f t ≤ before rising g t + 1
  before-one_less p lp h =
      let m = place-lt rising t small in
      count_below-one_less (λ i. f (place rising i)) (λ i. g (place rising i)) (place rising t) (place rising p) (λ k l other e.
      let low : k < 128 = omega (arith, m, l) in let back = place-place rising k low in h (place rising k) (λ s. other (sym back ∙ ap (place rising) s)) e)

-- ---- the squares that come before another

place_same : (rising : Bool) (s t : ℕ) → s < 128 → t < 128 → place rising s ≡ place rising t → s ≡ t
place_same rising s t l m e = sym (place-place rising s l) ∙ ap (place rising) e ∙ place-place rising t m

-- the squares before which a single one does not come, and that are not it, come before it
pub before-single : (rising : Bool) (f : ℕ → Bool) (s t : ℕ) → s < 128 → t < 128 → ((u : ℕ) → f u ≡ (u == t)) → ((before rising f s == 0) && not (s == t)) ≡ nat_lt (place rising s) (place rising t)
before-single rising f s t l m is =
    by_order (place rising s) (place rising t) (((before rising f s == 0) && not (s == t)) ≡ nat_lt (place rising s) (place rising t))
    (λ n.
    let none = before-none rising f s l (λ u k p. is u ∙ ne_eqb u t (λ e. let q = ap (place rising) e in omega (arith, n, p, q))) in
    let other = ne_eqb s t (λ e. let q = ap (place rising) e in omega (arith, n, q)) in
    rw (none, other, lt-ltb (place rising s) (place rising t) n) refl)
    (λ n.
    rw (le-ltb (place rising s) (place rising t) n)
    (by_equal s t (((before rising f s == 0) && not (s == t)) ≡ false)
    (λ e q. rw e (and-false (before rising f s == 0)))
    (λ e q.
    let apart : place rising s ≢ place rising t = λ z. q (place_same rising s t l m z) in
    let some = false_from_ne_true (before rising f s == 0) (λ z. let out = before-at rising f s t z m (omega (arith, n, apart)) in let here = is t ∙ eq-eqb t t refl in cc) in
    rw some refl)))

count_below-reversed : (g : ℕ → Bool) (n : ℕ) → count_below (λ i. g (n - i)) (suc n) ≡ count_below g (suc n)
count_below-reversed g zero = count_below-same (λ i. g (zero - i)) g 1 (λ k l. let e : zero - k ≡ k = omega (arith, l) in ap g e)
count_below-reversed g (suc n) =
    let a = count_below-shift (λ i. g (suc n - i)) (suc n) in
    let b = count_below-same (λ k. g (suc n - suc k)) (λ k. g (n - k)) (suc n) (λ k l. let e : suc n - suc k ≡ n - k = omega arith in ap g e) in
    let c = count_below-suc g (suc n) in
    let e : suc n - 0 ≡ suc n = omega arith in
    let d = ap (λ x. one_if (g x)) e in
    let rest = count_below-reversed g n in
    omega (arith, a, b, c, d, rest)

count_below-places : (rising : Bool) (g : ℕ → Bool) → count_below (λ i. g (place rising i)) 128 ≡ count_below g 128
count_below-places true g = refl
count_below-places false g = count_below-reversed g 127

pub before-size : (rising : Bool) (f g : ℕ → Bool) (t : ℕ) → t < 128 → ((s : ℕ) → s < 128 → g s ≡ (f s && nat_lt (place rising s) (place rising t))) → count_below g 128 ≡ before rising f t
before-size rising f g t l are =
    let m = place-lt rising t l in
    sym (count_below-places rising g)
    ∙ count_below-cut (λ i. g (place rising i)) (λ i. f (place rising i)) 128 (place rising t) (omega (arith, m))
    (λ i n.
    let small : i < 128 = omega (arith, m, n) in
    are (place rising i) (place-lt rising i small) ∙ rw (place-place rising i small, lt-ltb i (place rising t) n) (and-true (f (place rising i))))
    (λ i n small. are (place rising i) (place-lt rising i small) ∙ rw (place-place rising i small, le-ltb i (place rising t) n) (and-false (f (place rising i))))
