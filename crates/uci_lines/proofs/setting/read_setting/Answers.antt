use Rattle.std.proofs.Common.{◌∙◌, ap}
use Rattle.session_model.specs.UciLines.{value_text}
use Rattle.session_model.specs.UciWords.{joined}
use Rattle.uci_lines.specs.View.{texts}
use Rattle.uci_lines.proofs.LineLemmas.{setting_from}
use Rattle.uci_lines.proofs.setting.read_setting.Goals as goal

pub returns : goal.returns
returns c =
    c.setting_named.ensures
    ∙ setting_from (texts c.args.words.now) (texts c.behind_or_none-said.result.now) _ _ c.behind_or_none-said.ensures
    (c.as_slice.ensures.value ∙ c.name.view_is ∙ c.in_ok-name.ensures ∙ ap (λ words. joined words) c.before-2.ensures)
    (c.in_ok-value.ensures ∙ ap value_text c.behind.ensures)
