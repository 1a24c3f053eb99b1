use Rattle.std.proofs.Common.{◌≡◌, ◌+◌, ◌*◌, take}
use Rattle.std.specs.List.{sum_by}
use Rattle.mate_settle.specs.Lines.{lines_after, plies, seen_in}
use Rattle.mate_settle.specs.Steps.{IsFar, NoneDecides}
use Rattle.mate_settle.proofs.settling.+settle.Given as goal

abbrev pub decreases-settle : goal.decreases-settle
decreases-settle g l = 2 * plies (seen_in l.facts.now) l.n l.board.now.position + 1

abbrev pub decreases-by_moves : goal.decreases-by_moves
decreases-by_moves g l = 2 * plies (seen_in l.facts.now) l.n l.board.now.position

abbrev pub invariant-by_moves-loop-i : goal.invariant-by_moves-loop-i
invariant-by_moves-loop-i g l = record {
  frame : l.facts ≡ l.fn.facts;
  gone : g.W.Watch.gone l.fn.watch l.watch (sum_by (lines_after (seen_in l.fn.facts) l.left l.board.position) (take l.i l.moves));
  far : IsFar l.attacking l.left l.far;
  none : NoneDecides l.fn.facts l.board.position l.attacking l.far (take l.i l.moves);
}
