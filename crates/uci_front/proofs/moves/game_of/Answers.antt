use Rattle.std.proofs.Common.{◌∙◌, ap, subst, sym}
use Rattle.game_play.specs.Played.{Played}
use Rattle.game_text.specs.declared.fault.GameFault.{GameFault}
use Rattle.game_text.specs.Playing.{play_all}
use Rattle.session_model.specs.UciState.{move_fault}
use Rattle.uci_lines.specs.View.{texts}
use Rattle.uci_front.specs.Outcomes.{Refuses}
use Rattle.uci_front.proofs.MoveLemmas.{leads_to_fault, plays_fault, rules_kept}
use Rattle.uci_front.proofs.moves.game_of.Goals as goal

pub returns-in-Ok-clause-rules : goal.returns-in-Ok-clause-rules
returns-in-Ok-clause-rules c =
    rules_kept (texts c.args.words.now) c.in_ok-game.game c.play_words.new.game c.in-Ok.ensures ∙ ap (λ (g : Played). g.rules) c.in_ok-game.ensures

pub returns-in-Err-Faulty-clause-leads : goal.returns-in-Err-Faulty-clause-leads
returns-in-Err-Faulty-clause-leads c = λ state.
    let played = ap (λ (g : Played). play_all g (texts c.args.words.now)) (sym c.in_ok-game.ensures) ∙ plays_fault (Unit {0}) _ c.play_words.new.game _ _ c.in-Err-Faulty.field-0-is c.in-Err-Faulty.ensures in
    let refuses = subst (λ (fault : GameFault). Refuses (move_fault fault) c.bad_move.result) c.in-Err-Faulty.fault-is c.bad_move.ensures in
    leads_to_fault state _ _ _ played refuses
