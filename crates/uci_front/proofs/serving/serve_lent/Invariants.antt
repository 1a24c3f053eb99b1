use Rattle.std.proofs.Common.{◌≡◌, ◌≤◌}
use Rattle.std.specs.Io.KnownBytes.{IsAtEnd}
use Rattle.io_ports.specs.Cause.{Rose}
use Rattle.io_ports.specs.Trace.{Moves, Reads}
use Rattle.io_ports.specs.declared.source.Got.TheVariants as got
use Rattle.session_model.specs.UciSession.{uci}
use Rattle.session_model.specs.Turned.{Turned}
use Rattle.uci_front.proofs.serving.serve_lent.Given as goal

-- the turns so far, and the next line is there
abbrev pub invariant-loop : goal.invariant-loop
invariant-loop g l = record {
  so_far : Turned uci (Moves g.S.Source.left g.K.Sink.taken g.C.Clock.given g.C.Clock.count g.C.Clock.last l.fn.source l.source l.fn.sink l.sink l.fn.clock l.clock)
      (Reads g.F.Files.contents g.F.Files.faults l.fn.files l.files) (g.S.Source.owed l.fn.source) (g.S.Source.owed l.source) l.fn.session l.session l.next l.line;
  same : g.F.Files.contents l.files ≡ g.F.Files.contents l.fn.files;
  at_end : l.next ≡ got.End → IsAtEnd (g.S.Source.left l.source);
  failed : l.next ≡ got.Failed → Rose (g.S.Source.faults l.fn.source) (g.S.Source.faults l.source);
  source_later : g.S.Source.faults l.fn.source ≤ g.S.Source.faults l.source;
  sink_later : g.K.Sink.faults l.fn.sink ≤ g.K.Sink.faults l.sink;
}
