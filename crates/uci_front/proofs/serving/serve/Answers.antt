use Rattle.io_ports.proofs.Asked.{reads_none}
use Rattle.session_model.specs.UciSession.{uci}
use Rattle.session_model.proofs.Ending.{part_none}
use Rattle.uci_front.proofs.HeldLemmas.{on_err}
use Rattle.uci_front.proofs.serving.serve.Goals as goal

pub returns-in_err-line-clause-part : goal.returns-in_err-line-clause-part
returns-in_err-line-clause-part g c =
    let p = c.args.ports.now in
    on_err c.from_residual.result (part_none uci _ _ c.args.session.now p.source.now p.sink.now p.clock.now (reads_none c.args.files.now))
