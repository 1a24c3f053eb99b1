use Rattle.std.proofs.Common.{◌≡◌, ℕ, ◌<◌, false, true}
use Rattle.foundation.specs.Count.{any_below}
use Rattle.rules_model.specs.Attacks.{attacks_from}
use Rattle.rules_model.specs.Sides.{other}
use Rattle.square_set.specs.Members.{has, size}
use Rattle.pins.proofs.DangerLaws.{AfterEntering}
use Rattle.pins.proofs.danger.danger_anywhere.Given as goal

abbrev pub invariant-loop-from : goal.invariant-loop-from
invariant-loop-from l = record {
  inside : (s : ℕ) → has l.rest s ≡ true → has l.fn.enemies s ≡ true;
  taken : AfterEntering (other l.fn.side) l.cells l.fn.enemies l.left (λ board to. has l.danger to ≡ true → any_below (attacks_from l.tables board (other l.fn.side) to) 120 ≡ true);
  done : AfterEntering (other l.fn.side) l.cells l.fn.enemies l.left (λ board to. has l.danger to ≡ false → (s : ℕ) → s < 120 → has l.rest s ≡ false → attacks_from l.tables board (other l.fn.side) to s ≡ false);
}

abbrev pub decreases-loop-from : goal.decreases-loop-from
decreases-loop-from l = size l.rest
