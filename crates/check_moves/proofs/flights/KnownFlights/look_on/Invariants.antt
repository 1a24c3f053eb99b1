use Rattle.square_set.specs.Members.{size}
use Rattle.check_moves.specs.Flights.{AreFlights}
use Rattle.check_moves.proofs.flights.KnownFlights.look_on.Given as goal

abbrev pub invariant-loop-to : goal.invariant-loop-to
invariant-loop-to l = AreFlights l.board l.self

abbrev pub decreases-loop-to : goal.decreases-loop-to
decreases-loop-to l = size l.self.rest
