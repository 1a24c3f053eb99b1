use Rattle.std.proofs.Common.{◌≡◌, ℕ, false, ◌||◌, take}
use Rattle.std.specs.List.{list_any}
use Rattle.square_set.specs.declared.Set.{Set}
use Rattle.square_set.specs.Members.{has}
use Rattle.move_tables.specs.Lines.{on_line, by_jump}
use Rattle.move_tables.proofs.spot.Spot.range.Given as goal

abbrev pub invariant-loop-line : goal.invariant-loop-line
invariant-loop-line l = (occupied : Set) (t : ℕ) → has l.range t ≡ false → (has l.self.leaps t || list_any (λ line. on_line line occupied t) (take l.line-index l.self.lines.items)) ≡ false

abbrev pub invariant-loop-jump : goal.invariant-loop-jump
invariant-loop-jump l = (occupied : Set) (t : ℕ) → has l.range t ≡ false → (has l.self.leaps t || list_any (λ line. on_line line occupied t) l.self.lines.items || list_any (λ jump. by_jump jump occupied t) (take l.jump-index l.self.jumps.items)) ≡ false
