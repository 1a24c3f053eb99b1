use Rattle.std.proofs.Common.{◌≡◌, ℕ, ◌<◌, false, true}
use Rattle.rules_model.specs.Attacks.{attacks_from}
use Rattle.rules_model.specs.Squares.{cell_at}
use Rattle.square_set.specs.Members.{has, size}
use Rattle.pins.specs.Guards.{AfterLeaving}
use Rattle.check_moves.proofs.shut.guards_of_king.Given as goal

abbrev pub invariant-loop-from : goal.invariant-loop-from
invariant-loop-from l = record {
  inside : (s : ℕ) → has l.near s ≡ true → has l.fn.men s ≡ true;
  done : AfterLeaving l.occupied l.guards (λ board. (s : ℕ) → s < 120 → has l.near s ≡ false → cell_at board s ≡ cell_at l.cells s → attacks_from l.tables board l.by l.king.0 s ≡ false);
}

abbrev pub decreases-loop-from : goal.decreases-loop-from
decreases-loop-from l = size l.near
