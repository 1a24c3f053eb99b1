use Rattle.uci_front.proofs.SessionLemmas.{session_starts}
use Rattle.uci_front.proofs.session.UciSession.new.Goals as goal

pub invariant_of-result : goal.invariant_of-result
invariant_of-result c = session_starts c.args.sections c.args.variants _ c.in-Ok.start.0 c.in-Ok.start.1 c.requires.judged c.in-Ok.ensures
