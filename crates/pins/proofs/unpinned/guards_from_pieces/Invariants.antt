use Rattle.std.proofs.Common.{◌≡◌, ℕ, ◌<◌, false, true}
use Rattle.rules_model.specs.Attacks.{attacks_from}
use Rattle.square_set.specs.Members.{has, size}
use Rattle.pins.specs.Free.{AfterMoves}
use Rattle.pins.proofs.unpinned.guards_from_pieces.Given as goal

abbrev pub invariant-loop-from : goal.invariant-loop-from
invariant-loop-from l = record {
  inside : (s : ℕ) → has l.near s ≡ true → has l.fn.enemies s ≡ true;
  done : AfterMoves l.by l.cells l.fn.enemies l.occupied l.guards (λ board. (s : ℕ) → s < 120 → has l.near s ≡ false → attacks_from l.tables board l.by l.king.0 s ≡ false);
}

abbrev pub decreases-loop-from : goal.decreases-loop-from
decreases-loop-from l = size l.near
