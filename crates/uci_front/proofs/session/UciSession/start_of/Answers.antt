use Rattle.std.proofs.Common.{◌∙◌, List, ap, subst, sym}
use Rattle.std.specs.Prelude.{Ok}
use Rattle.game_text.specs.GameText.{started}
use Rattle.rules_model.specs.declared.rules.Rules.{Rules}
use Rattle.session_model.specs.UciState.{State}
use Rattle.uci_front.proofs.SessionLemmas.{same_place, starts_again}
use Rattle.uci_front.proofs.session.UciSession.start_of.Goals as goal
use Rattle.uci_front.specs.Outcomes.{StartsIn}
use Rattle.variant_ini.specs.Section.{Section}
use Rattle.variant_rules.proofs.PlayableLaws.{entry_playable}

pub another-requires : goal.another-requires
another-requires c =
    record { sound = rw c.rules.ensures (entry_playable c.self.inside.sections c.self.inside.place (Ok c.self.inside.game.rules) (sym c.self.invariant.accepted)).start }

pub returns-then-eq : goal.returns-then-eq
returns-then-eq c =
    let first = same_place c.place_of.result c.self.inside.place (sym c.eq.ensures ∙ c.if-eq.true) in
    let game =
    c.in_ok-game.ensures ∙ ap (λ (rules : Rules). started c.self.inside.game.rules rules.start) c.rules.ensures in
    subst (λ (sections : List Section). StartsIn sections c.args.name.now c.self.inside.place c.in_ok-game.game)
    (ap (λ (s : State). s.sections) c.self.view_is)
    (starts_again c.self.inside.sections c.args.name.now c.self.inside.place c.self.inside.game.rules c.in_ok-game.game
    (sym c.place_of.ensures ∙ first) c.self.invariant.accepted game)
