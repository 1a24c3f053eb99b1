use Rattle.variant_ini.proofs.OptionLaws.{option_value_is}
use Rattle.variant_ini.proofs.laws.options_are_inherited.Goals as goal

pub returns : goal.returns
returns c = λ sections section key. option_value_is sections key section
