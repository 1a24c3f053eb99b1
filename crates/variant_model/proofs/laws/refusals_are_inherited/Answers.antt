use Rattle.variant_model.proofs.EntryLaws.{refused_below}
use Rattle.variant_model.proofs.laws.refusals_are_inherited.Goals as goal

pub returns : goal.returns
returns c = refused_below
