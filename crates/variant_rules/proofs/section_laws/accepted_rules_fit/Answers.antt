use Rattle.variant_model.specs.Made.{no_position}
use Rattle.variant_rules.proofs.FitLaws.{faultless_fits, accepted_fits}
use Rattle.variant_rules.proofs.section_laws.accepted_rules_fit.Goals as goal

pub returns-clause-faultless : goal.returns-clause-faultless
returns-clause-faultless c = λ sections place e. faultless_fits sections place no_position e

pub returns-clause-accepted : goal.returns-clause-accepted
returns-clause-accepted c = accepted_fits
