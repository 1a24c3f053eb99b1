use Rattle.forced_wins.proofs.FactLaws.{derived-true, grounded-true}
use Rattle.forced_wins.proofs.by_rules.derived_facts_are_true.Goals as goal

pub returns : goal.returns
returns c = λ rules b a known all_true. record { derived = derived-true rules b a known all_true; grounded = grounded-true rules b a known all_true }
