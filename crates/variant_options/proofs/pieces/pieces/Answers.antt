use Rattle.std.proofs.Common.{refl}
use Rattle.variant_options.proofs.pieces.pieces.Goals as goal

pub returns : goal.returns
returns c = record { rows = refl; count = refl }
