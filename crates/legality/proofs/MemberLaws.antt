-- What is read from a list is a member of it.
use Rattle.std.proofs.Common.{ℕ, zero, suc, ◌<◌, List, [], ◌∷◌, length, get_or, inl, inr, refl, arith}
use Rattle.foundation.specs.Member.{Member}

pub get_or-member : {X : Type 0} (xs : List X) (i : ℕ) (d : X) → i < length xs → Member (get_or xs i d) xs
get_or-member [] i d l = absurd (omega arith)
get_or-member (x ∷ xs) zero d l = inl refl
get_or-member (x ∷ xs) (suc i) d l = inr (get_or-member xs i d (omega arith))
