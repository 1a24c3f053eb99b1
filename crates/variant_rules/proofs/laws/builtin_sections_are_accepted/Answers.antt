use Rattle.variant_rules.proofs.BuiltInLaws.{ten, all_accepted}
use Rattle.variant_rules.proofs.laws.builtin_sections_are_accepted.Goals as goal

pub returns-clause-ten : goal.returns-clause-ten
returns-clause-ten c = ten

pub returns-clause-accepted : goal.returns-clause-accepted
returns-clause-accepted c = all_accepted
