use Rattle.std.proofs.Common.{◌≡◌, ◌≤◌}
use Rattle.io_ports.specs.Trace.{Moves}
use Rattle.rules_model.specs.declared.moves.Move.{Move}
use Rattle.session_model.specs.UciSession.{first_of}
use Rattle.thinking.specs.Depths.{Deepening}
use Rattle.thinking.specs.Views.{announced_seen, task_seen}
use Rattle.thinking.proofs.deepening.iterative_deepening.Given as goal

abbrev pub invariant-loop-done : goal.invariant-loop-done
invariant-loop-done g l = record {
  so_far : (other : Move) → Deepening l.dialect l.style
      (Moves g.S.Source.left g.K.Sink.taken g.C.Clock.given g.C.Clock.count g.C.Clock.last l.fn.source l.source l.fn.sink l.sink l.fn.clock l.clock)
      (g.S.Source.owed l.fn.source) (g.S.Source.owed l.source) (task_seen l.task) (first_of other l.task.roots.now) l.start.first l.done l.entered l.best (announced_seen l.kept);
  same : l.engine ≡ l.fn.engine;
  source_later : g.S.Source.faults l.fn.source ≤ g.S.Source.faults l.source;
  sink_later : g.K.Sink.faults l.fn.sink ≤ g.K.Sink.faults l.sink;
}
