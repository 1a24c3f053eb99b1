use Rattle.std.proofs.Common.{refl}
use Rattle.variant_options.specs.Keys.{all_keys, in_order, key_inserted, ordered_keys}
use Rattle.variant_options.specs.Options.{options}
use Rattle.variant_options.proofs.keys.fourth_keys.Goals as goal

pub returns : goal.returns
unfolding all_keys in_order key_inserted ordered_keys options
returns c = refl
