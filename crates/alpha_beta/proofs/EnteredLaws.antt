-- Moves of a race, which a worker takes or leaves to others.
use Rattle.std.proofs.Common.{ℕ, ◌+◌, ◌≤◌, List, [], ◌∷◌, ◌++◌, arith}
use Rattle.std.proofs.lemmas.List.Sums.{sum_by_push}
use Rattle.negamax.specs.Trials.{Entered}

module _ {W C : Type 0} (gone : W → W → ℕ → Type 0) (size : C → ℕ) (before now : W) (rest : List C) (most most' : ℕ) where
  -- one more is taken
  pub entered-took : ((a b c : W) (m n : ℕ) → gone a b m → gone b c n → gone a c (m + n)) → (then : W) (n : ℕ)
      → Entered gone before now size rest most → gone now then n → most + n ≤ most' → Entered gone before then size rest most'
  entered-took more then n e g le =
      let fits = e.fits in
      record { nodes = e.nodes + n; went = more before now then e.nodes n e.went g; fits = omega (arith, fits, le) }

  -- one more is left
  pub entered-left : (x : C) → Entered gone before now size rest most → most + size x ≤ most'
      → Entered gone before now size (rest ++ x ∷ []) most'
  entered-left x e le =
      let fits = e.fits in let sum = sum_by_push size rest x in
      record { nodes = e.nodes; went = e.went; fits = omega (arith, fits, le, sum) }
