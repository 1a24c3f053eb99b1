-- Options and positions as the definitions of sessions have them.
use Rattle.session_model.specs.UciLines as UciLines
use Rattle.uci_lines.specs.View.{texts}
use Rattle.uci_lines.specs.declared.setting.Placing.{Placing}
use Rattle.uci_lines.specs.declared.setting.Placing.TheVariants as placing
use Rattle.uci_lines.specs.declared.setting.Setting.{Setting}
use Rattle.uci_lines.specs.declared.setting.Setting.TheVariants as setting

abbrev pub setting_seen : Setting → UciLines.Setting
setting_seen (setting.Threads value) = UciLines.Threads value
setting_seen (setting.Hash value) = UciLines.Hash value
setting_seen (setting.MateFacts value) = UciLines.MateFacts value
setting_seen (setting.VariantPath value) = UciLines.VariantPath value
setting_seen (setting.Variant value) = UciLines.Variant value
setting_seen setting.Unknown = UciLines.Unknown

abbrev pub placing_seen : Placing → UciLines.Placing
placing_seen (placing.Startpos moves) = UciLines.Startpos (texts moves.now)
placing_seen (placing.Fen fen moves) = UciLines.Fen fen (texts moves.now)
placing_seen placing.NoPosition = UciLines.NoPosition
