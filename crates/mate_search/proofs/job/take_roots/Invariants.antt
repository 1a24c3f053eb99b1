use Rattle.std.proofs.Common.{◌≡◌, take}
use Rattle.std.specs.List.{sum_by}
use Rattle.mate_settle.specs.Lines.{lines_after, seen_in}
use Rattle.mate_search.specs.Handed.{AreHandedBack}
use Rattle.mate_search.proofs.job.take_roots.Given as goal

abbrev pub invariant-loop-i : goal.invariant-loop-i
invariant-loop-i g l = record {
  facts : l.facts ≡ l.fn.facts;
  handed : AreHandedBack l.race.shards.now l.fn.worker.passes l.worker.passes;
  gone : g.W.Watch.gone l.fn.watch l.watch (sum_by (lines_after (seen_in l.fn.facts) l.task.left l.board.position) (take l.i l.race.roots.now));
}
