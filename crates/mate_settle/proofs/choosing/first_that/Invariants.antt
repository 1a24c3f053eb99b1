use Rattle.std.proofs.Common.{◌≡◌, if◌then◌else◌, take, false, not}
use Rattle.std.specs.List.{sum_by}
use Rattle.foundation.specs.Member.{Member}
use Rattle.rules_model.specs.declared.moves.Move.{Move}
use Rattle.mate_settle.specs.Choices.{wins_after}
use Rattle.mate_settle.specs.Lines.{lines_after, seen_in}
use Rattle.mate_settle.proofs.choosing.first_that.Given as goal

abbrev pub invariant-loop-i : goal.invariant-loop-i
invariant-loop-i g l = record {
  frame : l.facts ≡ l.fn.facts;
  gone : g.W.Watch.gone l.fn.watch l.watch (sum_by (lines_after (seen_in l.fn.facts) l.n l.board.position) (take l.i l.moves));
  none : (m : Move) → Member m (take l.i l.moves) → (if l.won then wins_after l.fn.facts l.n l.board.position m else not (wins_after l.fn.facts l.n l.board.position m)) ≡ false;
}
