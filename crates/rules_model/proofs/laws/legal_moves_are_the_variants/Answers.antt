use Rattle.rules_model.proofs.VariantLaws.{legal_of_variant}
use Rattle.rules_model.proofs.laws.legal_moves_are_the_variants.Goals as goal

pub returns : goal.returns
returns c = legal_of_variant
