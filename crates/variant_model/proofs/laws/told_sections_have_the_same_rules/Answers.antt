use Rattle.variant_model.proofs.ToldEntry.{same_rules, told_some}
use Rattle.variant_model.proofs.ToldLaws.{told_short}
use Rattle.variant_model.proofs.laws.told_sections_have_the_same_rules.Goals as goal

pub returns-clause-same : goal.returns-clause-same
returns-clause-same c = λ sections place name rules accepts. same_rules sections place rules accepts name

pub returns-clause-some : goal.returns-clause-some
returns-clause-some c = told_some

pub returns-clause-few : goal.returns-clause-few
returns-clause-few c = told_short
