-- Sums over the numbers below a number.
use Rattle.std.proofs.Common.{◌≡◌, ◌≢◌, ℕ, zero, suc, ◌+◌, ◌<◌, refl, ap, add-one, arith}
use Rattle.square_set.proofs.Cases.{by_equal}
use Rattle.position_key.specs.Key.{sum_below}

pub sum_below-zero : (f : ℕ → ℕ) → sum_below f 0 ≡ 0
unfolding sum_below
sum_below-zero f = refl

pub sum_below-more : (f : ℕ → ℕ) (n : ℕ) → sum_below f (n + 1) ≡ sum_below f n + f n
unfolding sum_below
sum_below-more f n = rw add-one

-- of numbers that are worth the same
pub sum_below-same : (f g : ℕ → ℕ) (n : ℕ) → ((s : ℕ) → s < n → f s ≡ g s) → sum_below f n ≡ sum_below g n
unfolding sum_below
sum_below-same f g zero h = refl
sum_below-same f g (suc n) h =
    let rest = sum_below-same f g n (λ s l. h s (omega (arith, l))) in
    let here = h n (omega arith) in
    rw (rest, here)

-- two sums whose numbers are worth the same but for one, by the rest of both
pub record DifferAt (f g : ℕ → ℕ) (n at : ℕ) : Type 0 where
  pub rest : ℕ
  pub first : sum_below f n ≡ rest + f at
  pub second : sum_below g n ≡ rest + g at

pub sums-apart : (f g : ℕ → ℕ) (n at : ℕ) → at < n → ((s : ℕ) → s ≢ at → f s ≡ g s) → DifferAt f g n at
unfolding sum_below
sums-apart f g zero at l h = absurd (omega (arith, l))
sums-apart f g (suc n) at l h =
    by_equal n at (DifferAt f g (suc n) at)
    (λ q e.
    let below = sum_below-same f g n (λ s m. h s (λ d. omega (arith, m, e, d))) in
    record { rest = sum_below f n; first = ap (λ k. sum_below f n + f k) e; second = rw below (ap (λ k. sum_below g n + g k) e) })
    (λ q d.
    let more = sums-apart f g n at (omega (arith, l, d)) h in
    let here = h n d in
    let a = more.first in
    let b = more.second in
    record { rest = more.rest + f n; first = omega (arith, a); second = omega (arith, b, here) })
