use Rattle.std.proofs.Common.{◌≡◌, ℕ, ◌&&◌, nat_lt}
use Rattle.square_set.specs.Members.{has}
use Rattle.move_tables.specs.Spots.{lies_in}
use Rattle.move_tables.proofs.region.region_set.Given as goal

abbrev pub invariant-loop-at : goal.invariant-loop-at
invariant-loop-at l = (t : ℕ) → has l.set t ≡ (nat_lt t l.at && lies_in l.region t)
