use Rattle.legality.proofs.GoLaws.{on_true}
use Rattle.check_moves.specs.Flights.{step_of}
use Rattle.check_moves.proofs.flights.KnownFlights.is_left_at.Goals as goal

pub returns-in-Some : goal.returns-in-Some
returns-in-Some c = on_true c.leaves_step.result c.leaves_step.ensures (λ leaves. record { reply = step_of c.in-Some.flight; legal = leaves })
