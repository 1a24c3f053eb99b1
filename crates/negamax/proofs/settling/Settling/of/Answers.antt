use Rattle.std.proofs.Common.{subst}
use Rattle.std.proofs.lemmas.Bool.{OnTrue_at}
use Rattle.check_moves.specs.Flights.{AreFlights}
use Rattle.negamax.proofs.settling.Settling.of.Goals as goal

pub returns-then-ends_by_stuck_alone : goal.returns-then-ends_by_stuck_alone
returns-then-ends_by_stuck_alone c = record {
  ends = OnTrue_at c.if-ends_by_stuck_alone.true c.ends_by_stuck_alone.ensures;
  steps = subst (λ s. AreFlights s c.of-flights.result) c.board.ensures c.of-flights.ensures;
  leaps = tt;
}
