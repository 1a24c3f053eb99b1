use Rattle.std.proofs.Common.{◌≡◌, subst}
use Rattle.game_play.specs.Played.{Played}
use Rattle.checkers.specs.CheckersText.{checkers_of}
use Rattle.uci_front.proofs.PlainLemmas.{just_says}
use Rattle.uci_front.proofs.without_search.answer_at_once.Goals as goal

pub returns-in_ok-uci_text-in-Uci : goal.returns-in_ok-uci_text-in-Uci
returns-in_ok-uci_text-in-Uci c = λ turn following after events.
    rw c.in-Uci.is (just_says turn c.args.session.now c.in_ok-uci_text-in-Uci.field-0 _ c.in_ok-uci_text-in-Uci.ensures after events)

pub returns-in-Position : goal.returns-in-Position
returns-in-Position c = rw c.in-Position.is c.answer_position.ensures

pub returns-in_ok-checkers_of-in-Checkers : goal.returns-in_ok-checkers_of-in-Checkers
returns-in_ok-checkers_of-in-Checkers c = λ turn following after events.
    rw c.in-Checkers.is
    (just_says turn c.args.session.now c.in_ok-checkers_of-in-Checkers.field-0 _
    (subst (λ (x : Played). c.in_ok-checkers_of-in-Checkers.field-0 ≡ checkers_of x) c.game-in-Checkers.ensures c.in_ok-checkers_of-in-Checkers.ensures) after events)
