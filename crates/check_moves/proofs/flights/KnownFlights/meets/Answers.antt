use Rattle.std.proofs.lemmas.Bool.{OnTrue_at}
use Rattle.check_moves.proofs.flights.KnownFlights.meets.Goals as goal

pub returns-then-is_left_at-clause-met : goal.returns-then-is_left_at-clause-met
returns-then-is_left_at-clause-met c = OnTrue_at c.if-is_left_at.true c.is_left_at.ensures
