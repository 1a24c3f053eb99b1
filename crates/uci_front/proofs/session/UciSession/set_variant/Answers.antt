use Rattle.std.proofs.Common.{List, ap, subst, sym}
use Rattle.session_model.specs.UciState.{State}
use Rattle.uci_front.proofs.SessionLemmas.{session_starts}
use Rattle.uci_front.proofs.session.UciSession.set_variant.Goals as goal
use Rattle.uci_front.specs.Outcomes.{StartsIn}
use Rattle.variant_ini.specs.Section.{Section}

pub invariant_of-self : goal.invariant_of-self
invariant_of-self c =
    let starts =
    subst (λ (sections : List Section). StartsIn sections c.args.name.now c.in_ok-place.place c.in_ok-place.game)
    (sym (ap (λ (s : State). s.sections) c.self.view_is)) c.in_ok-place.ensures in
    session_starts c.self.inside.sections c.self.inside.variants c.args.name.now c.in_ok-place.place c.in_ok-place.game
    c.self.invariant.judged starts
