use Rattle.std.proofs.Common.{refl}
use Rattle.variant_options.specs.Options.{options}
use Rattle.variant_options.proofs.options.options.Goals as goal

pub returns : goal.returns
unfolding options
returns c = refl
