use Rattle.cecp_front.proofs.TurnLaws.{long_goes_on}
use Rattle.cecp_front.proofs.serving.is_last.Goals as goal

pub returns-in-TooLong : goal.returns-in-TooLong
returns-in-TooLong c = long_goes_on c.args.next c.args.line.now c.in-TooLong.is
