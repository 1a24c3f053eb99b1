use Rattle.std.proofs.Common.{◌≡◌, ◌∙◌, ap}
use Rattle.session_model.specs.UciLines.{setting_of}
use Rattle.uci_lines.specs.SettingView.{setting_seen}
use Rattle.uci_lines.specs.View.{texts}
use Rattle.uci_front.specs.PlanView.{words_said}
use Rattle.variant_rules.proofs.FileLemmas.{looked_so}
use Rattle.uci_front.proofs.PlainLemmas.{option_answered}
use Rattle.uci_front.proofs.without_search.answer_option.Goals as goal

pub returns : goal.returns
returns g c =
    let seen : setting_seen c.in_ok-setting.setting ≡ setting_of (words_said c.args.rest) =
    c.in_ok-setting.ensures ∙ ap (λ ws. setting_of (texts ws)) c.deref.ensures.value ∙ ap setting_of c.in_ok-words.ensures in
    looked_so _ _ _ c.set_option-outcome.ensures.sets
    (λ reads sets. option_answered (setting_seen c.in_ok-setting.setting) (setting_of (words_said c.args.rest)) c.args.session.now
    c.set_option-outcome.new.session reads c.set_option-outcome.result c.outcome_text.result seen sets c.set_option-outcome.ensures.refused c.outcome_text.ensures)
