use Rattle.std.proofs.Common.{ap, is_err}
use Rattle.variant_model.proofs.ToldReturns.{told_ends}
use Rattle.variant_model.proofs.laws.told_values_end_in_no_return.Goals as goal

pub returns : goal.returns
returns c = λ sections place rules accepts. told_ends sections place (ap is_err accepts)
