use Rattle.std.proofs.Common.{◌≡◌, ◌≤◌}
use Rattle.watching.specs.Watched.{MovesOn, moment, world}
use Rattle.thinking.specs.Tries.{Trying}
use Rattle.thinking.proofs.mates.try_mates.Given as goal

abbrev pub invariant-loop-before : goal.invariant-loop-before
invariant-loop-before g l = record {
  so_far : Trying l.dialect
      (MovesOn (world g.S.Source.left g.S.Source.owed g.S.Source.faults g.K.Sink.taken g.K.Sink.faults g.C.Clock.given g.C.Clock.count g.C.Clock.last)
      (moment l.fn.source l.fn.sink l.fn.clock 0) (moment l.source l.sink l.clock 0))
      (g.S.Source.owed l.fn.source) (g.S.Source.owed l.source) l.game l.before;
  same : l.engine ≡ l.fn.engine;
  source_later : g.S.Source.faults l.fn.source ≤ g.S.Source.faults l.source;
  sink_later : g.K.Sink.faults l.fn.sink ≤ g.K.Sink.faults l.sink;
}
