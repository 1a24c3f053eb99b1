use Rattle.std.proofs.Common.{◌≡◌, ℕ, true}
use Rattle.rules_model.specs.Sides.{other}
use Rattle.square_set.specs.Members.{has, size}
use Rattle.pins.specs.Evasion.{AfterVainMoves, StaysAttacked}
use Rattle.pins.proofs.evasion.evasions.Given as goal

abbrev pub invariant-loop-king : goal.invariant-loop-king
invariant-loop-king l = record {
  inside : (s : ℕ) → has l.rest s ≡ true → has l.fn.kings s ≡ true;
  done : AfterVainMoves (other l.fn.side) l.cells l.enemies l.occupied l.leave l.enter (StaysAttacked l.tables l.fn.side l.fn.kings);
}

abbrev pub decreases-loop-king : goal.decreases-loop-king
decreases-loop-king l = size l.rest
