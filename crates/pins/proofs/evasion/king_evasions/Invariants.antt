use Rattle.std.proofs.Common.{◌≡◌, ℕ, true}
use Rattle.square_set.specs.Members.{has, size}
use Rattle.pins.specs.Evasion.{AfterVainMoves, PiecesAttack}
use Rattle.pins.proofs.evasion.king_evasions.Given as goal

abbrev pub invariant-loop-from : goal.invariant-loop-from
invariant-loop-from l = record {
  inside : (s : ℕ) → has l.near s ≡ true → has l.fn.enemies s ≡ true;
  done : AfterVainMoves l.by l.cells l.fn.enemies l.occupied l.leave l.enter (PiecesAttack l.tables l.by l.king.0);
}

abbrev pub decreases-loop-from : goal.decreases-loop-from
decreases-loop-from l = size l.near
