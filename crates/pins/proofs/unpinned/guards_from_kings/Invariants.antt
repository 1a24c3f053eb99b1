use Rattle.std.proofs.Common.{◌≡◌, ℕ, ◌<◌, false, true}
use Rattle.square_set.specs.Members.{has, size}
use Rattle.pins.specs.Free.{AfterMoves, IsNotFaced}
use Rattle.pins.proofs.unpinned.guards_from_kings.Given as goal

abbrev pub invariant-loop-from : goal.invariant-loop-from
invariant-loop-from l = record {
  inside : (s : ℕ) → has l.near s ≡ true → has l.fn.enemies s ≡ true;
  done : AfterMoves l.by l.cells l.fn.enemies l.occupied l.guards (λ board. (s : ℕ) → s < 120 → has l.near s ≡ false → IsNotFaced l.tables l.by l.king.0 s board);
}

abbrev pub decreases-loop-from : goal.decreases-loop-from
decreases-loop-from l = size l.near
