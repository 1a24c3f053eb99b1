-- Windows.
use Rattle.std.proofs.Common.{◌≡◌, arith}
use Rattle.std.specs.Prelude.{ℤ, neg_ℤ, ◌≤ℤ◌, ◌<ℤ◌}
use Rattle.std.specs.Int.{int_max}
use Rattle.std.proofs.lemmas.Int.{ints, clamps}
use Rattle.evaluation.specs.Laws.{Within}
use Rattle.negamax.specs.Windows.{Bounds}

-- a window seen from the other side
pub flip : (a b r v : ℤ) → Bounds (neg_ℤ b) (neg_ℤ a) r v → Bounds a b (neg_ℤ r) (neg_ℤ v)
flip a b r v h = let low = h.low in let high = h.high in record {
  low = λ p. (let q = high (omega (arith, ints)) in omega (arith, ints));
  high = λ p. (let q = low (omega (arith, ints)) in omega (arith, ints));
}

-- one move more
pub step : (a b best v s w : ℤ) → Bounds a b best v → Bounds (int_max a best) b s w
    → Bounds a b (int_max best s) (int_max v w)
step a b best v s w h k =
    let h1 = h.low in let h2 = h.high in let k1 = k.low in let k2 = k.high in
    grind (arith, ints, clamps)

-- the scores so far reach the roof, and the others can only raise the value
pub cut : (a b r v w : ℤ) → a <ℤ b → b ≤ℤ r → Bounds a b r v → v ≤ℤ w → Bounds a b r w
cut a b r v w p q h le = let low = h.low in record {
  low = λ k. (let l = low k in omega (arith, ints));
  high = λ k. absurd (omega (arith, ints));
}

-- what is known to be no more than the floor
pub below : (a b r v : ℤ) → r ≤ℤ a → v ≤ℤ r → Bounds a b r v
below a b r v low le = record { low = λ k. absurd (omega (arith, ints)); high = λ k. le }

pub same : (a b v : ℤ) → Bounds a b v v
same a b v = record { low = λ p. omega (arith, ints); high = λ p. omega (arith, ints) }

-- the same numbers under other names
pub reframe : (a b r v a' b' r' : ℤ) → Bounds a b r v → a' ≡ a → b' ≡ b → r' ≡ r → Bounds a' b' r' v
reframe a b r v a' b' r' h ea eb er = rw (ea, eb, er) h

pub within_other : (v : ℤ) → Within v → Within (neg_ℤ v)
within_other v h = let p = h.least in let q = h.most in record { least = omega (arith, ints); most = omega (arith, ints) }

pub within_larger : (v w : ℤ) → Within v → Within w → Within (int_max v w)
within_larger v w h k =
    let p = h.least in let q = h.most in let r = k.least in let s = k.most in
    record { least = omega (arith, ints, clamps); most = omega (arith, ints, clamps) }
