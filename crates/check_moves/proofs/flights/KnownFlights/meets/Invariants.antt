use Rattle.check_moves.specs.Flights.{AreFlights}
use Rattle.check_moves.proofs.flights.KnownFlights.meets.Given as goal

abbrev pub invariant-loop-i : goal.invariant-loop-i
invariant-loop-i l = AreFlights l.board l.self
