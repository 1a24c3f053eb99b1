use Rattle.std.proofs.Common.{◌≡◌, ℕ}
use Rattle.square_set.specs.Members.{has}
use Rattle.move_tables.specs.Rays.{on_ray}
use Rattle.move_tables.proofs.ray.squares_to.Given as goal

abbrev pub invariant-loop-i : goal.invariant-loop-i
invariant-loop-i l = (t : ℕ) → has l.squares t ≡ on_ray l.ray l.i t
