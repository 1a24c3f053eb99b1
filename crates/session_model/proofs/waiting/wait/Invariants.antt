use Rattle.std.proofs.Common.{◌≡◌, ◌≤◌, []}
use Rattle.watching.specs.Events.{Listens}
use Rattle.watching.specs.Looks.{Ran}
use Rattle.session_model.specs.Lines.{Exchanges}
use Rattle.session_model.proofs.waiting.wait.Given as goal

abbrev pub invariant-loop : goal.invariant-loop
invariant-loop g l = record {
  so_far : Ran l.fn.dialect (Exchanges g.S.Source.left g.K.Sink.taken l.fn.source l.source l.fn.sink l.sink) [] (Listens l.fn.dialect);
  owed : g.S.Source.owed l.source ≡ g.S.Source.owed l.fn.source;
  source_later : g.S.Source.faults l.fn.source ≤ g.S.Source.faults l.source;
  sink_later : g.K.Sink.faults l.fn.sink ≤ g.K.Sink.faults l.sink;
}
