use Rattle.session_model.specs.Lines.{got_line}
use Rattle.cecp_front.proofs.SeekLaws.{on_error}
use Rattle.cecp_front.proofs.TurnLaws.{line_silent, line_thought, line_unthought, unserved_answer}
use Rattle.cecp_front.proofs.serving.serve_line.Goals as goal

pub returns-in_err-tell-clause-unserved : goal.returns-in_err-tell-clause-unserved
returns-in_err-tell-clause-unserved g c contents =
    on_error c.from_residual.result
    (unserved_answer c.args.session.now (got_line c.args.next c.args.line.now) c.args.source.now c.args.clock.now contents
    (rw c.text.ensures.bytes at c.in_err-tell.ensures.part))

pub returns-then-thinks-clause-served : goal.returns-then-thinks-clause-served
returns-then-thinks-clause-served g c =
    line_thought g.S.Source.left g.K.Sink.taken g.C.Clock.given g.C.Clock.count g.C.Clock.last c.args.source.now c.think.new.source
    c.args.sink.now c.tell.new.sink c.args.clock.now (g.S.Source.owed c.args.source.now) (g.S.Source.owed c.think.new.source)
    c.args.session.now c.tell.new.session (got_line c.args.next c.args.line.now) (rw c.text.ensures.bytes at c.in_ok-tell.ensures.told)
    (rw c.text.ensures.bytes at c.in_ok-tell.ensures.wrote) c.thinks.result c.thinks.ensures c.think.new.sink c.think.new.clock
    c.if-thinks.true c.think.new.self c.think.new.line c.think.result c.think.ensures.thought

pub returns-then-thinks-clause-unserved : goal.returns-then-thinks-clause-unserved
returns-then-thinks-clause-unserved g c contents =
    line_unthought g.S.Source.left g.K.Sink.taken g.C.Clock.given g.C.Clock.count g.C.Clock.last c.args.source.now c.think.new.source
    c.args.sink.now c.tell.new.sink c.args.clock.now (g.S.Source.owed c.args.source.now) (g.S.Source.owed c.think.new.source)
    c.args.session.now c.tell.new.session (got_line c.args.next c.args.line.now) (rw c.text.ensures.bytes at c.in_ok-tell.ensures.told)
    (rw c.text.ensures.bytes at c.in_ok-tell.ensures.wrote) c.thinks.result c.thinks.ensures c.think.new.sink c.think.new.clock
    c.if-thinks.true contents c.think.result c.think.ensures.unthought

pub returns-else-thinks-clause-served : goal.returns-else-thinks-clause-served
returns-else-thinks-clause-served g c =
    line_silent g.S.Source.left g.K.Sink.taken g.C.Clock.given g.C.Clock.count g.C.Clock.last c.args.source.now c.next_line.new.self
    c.args.sink.now c.tell.new.sink c.args.clock.now (g.S.Source.owed c.args.source.now) (g.S.Source.owed c.next_line.new.self)
    c.args.session.now c.tell.new.session (got_line c.args.next c.args.line.now) (rw c.text.ensures.bytes at c.in_ok-tell.ensures.told)
    (rw c.text.ensures.bytes at c.in_ok-tell.ensures.wrote) c.thinks.result c.thinks.ensures c.if-thinks.false c.next_line.result
    c.next_line.new.line c.next_line.ensures.takes c.next_line.ensures.owed
