use Rattle.std.proofs.Common.{◌≡◌, ℕ, true, false}
use Rattle.square_set.specs.Members.{has, size}
use Rattle.pins.specs.Danger.{IsDangerAt}
use Rattle.pins.proofs.danger.danger_at_each.Given as goal

abbrev pub invariant-loop-to : goal.invariant-loop-to
invariant-loop-to l = record {
  inside : (s : ℕ) → has l.rest s ≡ true → has l.fn.targets s ≡ true;
  clear : (s : ℕ) → has l.rest s ≡ true → has l.danger s ≡ false;
  done : (s : ℕ) → has l.fn.targets s ≡ true → has l.rest s ≡ false → IsDangerAt l.tables l.fn.side l.cells l.fn.king.0 l.fn.enemies l.fn.occupied s (has l.danger s);
}

abbrev pub decreases-loop-to : goal.decreases-loop-to
decreases-loop-to l = size l.rest
