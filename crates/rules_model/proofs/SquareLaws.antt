-- A square is its file and its rank.
use Rattle.std.proofs.Common.{◌≡◌, ℕ, ◌+◌, ◌*◌, ◌/◌, ◌%◌, ◌<◌, arith}
use Rattle.rules_model.specs.declared.board.Square.{Square}
use Rattle.rules_model.specs.Squares.{square_on, file_of, rank_of}

number_of_parts : (s : ℕ) → 12 * (s / 12) + s % 12 ≡ s
number_of_parts s = omega arith

pub at_file_and_rank : (s : Square) → square_on (file_of s) (rank_of s) ≡ s
at_file_and_rank s = λ i. record { 0 = number_of_parts s.0 i }

pub file_of_at : (file rank : ℕ) → file < 12 → file_of (square_on file rank) ≡ file
file_of_at file rank l = omega (arith, l)

pub rank_of_at : (file rank : ℕ) → file < 12 → rank_of (square_on file rank) ≡ rank
rank_of_at file rank l = omega (arith, l)

pub at_below : (file rank : ℕ) → file < 12 → rank < 10 → (square_on file rank).0 < 120
at_below file rank l h = omega (arith, l, h)

pub file_below : (s : Square) → file_of s < 12
file_below s = omega arith

pub rank_below : (s : Square) → s.0 < 120 → rank_of s < 10
rank_below s l = omega (arith, l)
