-- Sums over the numbers below a number, and what they become where one term becomes another. They know no chess.
use Rattle.std.proofs.Common.{◌≡◌, ◌≢◌, ◌⊎◌, inl, inr, ℕ, zero, suc, ◌+◌, ◌*◌, ◌<◌, ◌≤◌, sum_by, refl, sym, ◌∙◌, arith, add-one}
use Rattle.std.proofs.lemmas.Bool.{cases_eq}
use Rattle.std.proofs.lemmas.List.Sums.{sum_by_push}
use Rattle.foundation.specs.Count.{below}

pub sum-none : (f : ℕ → ℕ) → sum_by f (below 0) ≡ 0
unfolding below
sum-none f = refl

sum-suc : (f : ℕ → ℕ) (n : ℕ) → sum_by f (below (suc n)) ≡ sum_by f (below n) + f n
unfolding below
sum-suc f n = sum_by_push f (below n) n

-- one term more
pub sum-more : (f : ℕ → ℕ) (n : ℕ) → sum_by f (below (n + 1)) ≡ sum_by f (below n) + f n
sum-more f n = rw add-one (sum-suc f n)

-- equal terms
pub sum-same : (f g : ℕ → ℕ) (n : ℕ) → ((k : ℕ) → k < n → f k ≡ g k) → sum_by f (below n) ≡ sum_by g (below n)
sum-same f g zero same = sum-none f ∙ sym (sum-none g)
sum-same f g (suc n) same =
    let rest = sum-same f g n (λ k l. same k (omega (arith, l))) in
    let last = same n (omega arith) in
    omega (arith, rest, last, sum-suc f n, sum-suc g n)

-- equal terms but for one
pub sum-but-one : (f g : ℕ → ℕ) (n at : ℕ) → at < n → ((k : ℕ) → k ≢ at → f k ≡ g k)
    → sum_by g (below n) + f at ≡ sum_by f (below n) + g at
sum-but-one f g zero at l same = absurd (omega (arith, l))
sum-but-one f g (suc n) at l same = by_last (cases_eq at n) (λ m. sum-but-one f g n at m same)
  where
    by_last : (at ≡ n) ⊎ (at ≡ n → ⊥) → (at < n → sum_by g (below n) + f at ≡ sum_by f (below n) + g at)
        → sum_by g (below (suc n)) + f at ≡ sum_by f (below (suc n)) + g at
    by_last (inl is) before =
        let rest = sum-same f g n (λ k l. same k (λ e. omega (arith, l, e, is))) in
        rw is (omega (arith, rest, sum-suc f n, sum-suc g n))
    by_last (inr other) before =
        let rest = before (omega (arith, l, other)) in
        let last = same n (λ e. other (sym e)) in
        omega (arith, rest, last, sum-suc f n, sum-suc g n)

-- small terms
pub sum-few : (f : ℕ → ℕ) (n most : ℕ) → ((k : ℕ) → k < n → f k ≤ most) → sum_by f (below n) ≤ n * most
sum-few f zero most few = omega (arith, sum-none f)
sum-few f (suc n) most few =
    let rest = sum-few f n most (λ k l. few k (omega (arith, l))) in
    let last = few n (omega arith) in
    omega (arith, rest, last, sum-suc f n)
