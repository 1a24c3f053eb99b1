use Rattle.variant_ini.proofs.OptionLaws.{option_value-append}
use Rattle.variant_ini.proofs.laws.later_sections_change_no_option.Goals as goal

pub returns : goal.returns
returns c = λ sections later section key within. option_value-append sections later key section within
