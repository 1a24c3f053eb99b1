use Rattle.std.proofs.Common.{◌≡◌, ℕ, ◌&&◌, nat_lt, true}
use Rattle.rules_model.specs.Attacks.{is_own}
use Rattle.rules_model.specs.Squares.{cell_at}
use Rattle.square_set.specs.Members.{has}
use Rattle.move_tables.proofs.squares.men.Given as goal

abbrev pub invariant-loop-at : goal.invariant-loop-at
invariant-loop-at l = (t : ℕ) → has l.set t ≡ (nat_lt t l.at && is_own l.side (λ kind. true) (cell_at l.cells t))
