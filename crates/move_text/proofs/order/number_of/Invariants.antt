use Rattle.std.proofs.Common.{◌≡◌, ◌-◌, drop}
use Rattle.move_text.specs.Keys.{with_digits}
use Rattle.move_text.proofs.order.number_of.Given as goal

-- the digits that are left
abbrev pub invariant-loop-i : goal.invariant-loop-i
invariant-loop-i l = with_digits l.number (8 - l.i) (drop l.i l.bytes) ≡ with_digits 0 8 l.bytes
