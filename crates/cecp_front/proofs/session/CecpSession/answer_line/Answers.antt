use Rattle.cecp_front.proofs.SessionLaws.{long_answers}
use Rattle.cecp_front.proofs.session.CecpSession.answer_line.Goals as goal

pub returns-in-TooLong : goal.returns-in-TooLong
returns-in-TooLong c =
    long_answers c.args.self.now c.args.next c.args.line.now c.long_line.result c.in-TooLong.is c.long_line.ensures
