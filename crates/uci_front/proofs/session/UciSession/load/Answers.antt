use Rattle.uci_front.proofs.SessionLemmas.{session_starts}
use Rattle.uci_front.proofs.session.UciSession.load.Goals as goal

pub invariant_of-self : goal.invariant_of-self
invariant_of-self c =
    session_starts c.args.sections c.in_ok-variants.variants _ c.in_ok-place.place c.in_ok-place.game c.in_ok-variants.ensures c.in_ok-place.ensures
