use Rattle.session_model.specs.CecpSession.{answer_of}
use Rattle.session_model.specs.Lines.{got_line}
use Rattle.cecp_front.proofs.SeekLaws.{on_error}
use Rattle.cecp_front.proofs.TurnLaws.{front_none}
use Rattle.cecp_front.proofs.serving.tell.Goals as goal

pub returns-in_err-text-clause-part : goal.returns-in_err-text-clause-part
returns-in_err-text-clause-part g c =
    on_error c.from_residual.result
    (front_none (g.K.Sink.taken c.args.sink.now) (answer_of c.args.session.now (got_line c.args.next c.args.line.now)).text)
