use Rattle.forced_wins.proofs.FactLaws.{kept-won, kept-refuted}
use Rattle.forced_wins.proofs.by_rules.kept_facts_are_true.Goals as goal

pub returns : goal.returns
returns c = λ rules a old new f. record { wins = kept-won rules a old new f; refutes = kept-refuted rules a old new f }
