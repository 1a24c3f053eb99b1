use Rattle.std.proofs.Common.{◌≡◌, ℕ, ◌<◌, ◌||◌, take}
use Rattle.std.specs.List.{list_any}
use Rattle.square_set.specs.Members.{has}
use Rattle.move_tables.specs.Lines.{on_line}
use Rattle.move_tables.proofs.spot.along.Given as goal

abbrev pub invariant-loop-line : goal.invariant-loop-line
invariant-loop-line l = (t : ℕ) → t < 128 → has l.reached t ≡ (has l.fn.leaps t || list_any (λ line. on_line line l.occupied t) (take l.line-index l.lines))
