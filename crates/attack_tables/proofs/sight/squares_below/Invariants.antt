use Rattle.std.proofs.Common.{◌≡◌, ℕ, ◌&&◌, nat_lt}
use Rattle.square_set.specs.Members.{has}
use Rattle.attack_tables.specs.Sights.{is_below}
use Rattle.attack_tables.proofs.sight.squares_below.Given as goal

abbrev pub invariant-loop-square : goal.invariant-loop-square
invariant-loop-square l = (s : ℕ) → has l.set s ≡ (nat_lt s l.square && is_below l.at s)
