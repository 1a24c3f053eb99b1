-- Windows, and what a search with one answers.
use Rattle.std.specs.Prelude.{ℤ, ◌≤ℤ◌, ◌<ℤ◌}

-- What is told of a value v by an answer r within a window from a to b: r is at most v where it is above a, and at
-- least v where it is below b.
pub record Bounds (a b r v : ℤ) : Type 0 where
  pub low : a <ℤ r → r ≤ℤ v
  pub high : r <ℤ b → v ≤ℤ r
