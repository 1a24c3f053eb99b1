-- Squares by their numbers.
use Rattle.std.proofs.Common.{◌≡◌, ℕ, ◌+◌, ◌*◌, ◌<◌, arith}
use Rattle.rules_model.specs.declared.board.Square.{Square}

pub same_square : (a b : Square) → a.0 ≡ b.0 → a ≡ b
same_square a b e = λ i. record { 0 = e i }

-- squares of one rank are of one file where they are one
pub same_file : (rank a b : ℕ) → 12 * rank + a ≡ 12 * rank + b → a ≡ b
same_file rank a b e = omega (arith, e)

pub on_board : (rank file : ℕ) → rank < 10 → file < 12 → 12 * rank + file < 120
on_board rank file l h = omega (arith, l, h)
