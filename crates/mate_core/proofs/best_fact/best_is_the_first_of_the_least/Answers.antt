use Rattle.mate_core.proofs.AnswerLemmas.{best-some, best-none}
use Rattle.mate_core.proofs.best_fact.best_is_the_first_of_the_least.Goals as goal

pub returns : goal.returns
returns c = record { found = best-some; none = best-none }
