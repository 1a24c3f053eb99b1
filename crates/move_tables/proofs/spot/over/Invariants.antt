use Rattle.std.proofs.Common.{◌≡◌, ℕ, ◌<◌, ◌||◌, take}
use Rattle.std.specs.List.{list_any}
use Rattle.square_set.specs.Members.{has}
use Rattle.move_tables.specs.Lines.{by_jump}
use Rattle.move_tables.proofs.spot.over.Given as goal

abbrev pub invariant-loop-jump : goal.invariant-loop-jump
invariant-loop-jump l = (t : ℕ) → t < 128 → has l.reached t ≡ (has l.fn.others t || list_any (λ jump. by_jump jump l.occupied t) (take l.jump-index l.jumps))
