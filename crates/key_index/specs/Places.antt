-- Where a key stands in a list of keys.
use Rattle.std.specs.Prelude.{◌≡◌, ℕ, ◌<◌, ◌≤◌, List, Option, None, Some, slice_get}
use Rattle.std.specs.Option.{IfSome}

-- a place was found, and it is this one or a later one
abbrev pub IsFrom : ℕ → Option ℕ → Type 0
IsFrom j None = ⊥
IsFrom j (Some i) = j ≤ i

-- of the first n places the last that has the key, where one has
pub record IsLastPlace (keys : List ℕ) (key n : ℕ) (found : Option ℕ) : Type 0 where
  pub below : IfSome found (λ i. i < n)
  pub here : IfSome found (λ i. slice_get keys i ≡ Some key)
  pub last : (j : ℕ) → j < n → slice_get keys j ≡ Some key → IsFrom j found
