use Rattle.std.proofs.Common.{◌≡◌, false, take}
use Rattle.foundation.specs.Member.{Member}
use Rattle.rules_model.specs.declared.moves.Move.{Move}
use Rattle.rules_model.specs.Next.{next}
use Rattle.check_moves.specs.Flights.{AreFlights}
use Rattle.mate_fact.specs.InFrame.{near_in}
use Rattle.mate_settle.proofs.last_moves.winning_move.Given as goal

abbrev pub invariant-loop-i : goal.invariant-loop-i
invariant-loop-i l = record {
  flights : AreFlights l.board l.flights;
  kept : l.facts ≡ l.fn.facts;
  none : (m : Move) → Member m (take l.i l.moves) → near_in l.frame 0 (next l.frame.rules l.board.position m) ≡ false;
}
