use Rattle.forced_wins.proofs.FactLaws.{near-counter}
use Rattle.forced_wins.proofs.by_rules.lower_counters_do_no_harm.Goals as goal

pub returns : goal.returns
returns c = λ rules n p q b a is. near-counter rules a b n p q is.repeat is.counter
