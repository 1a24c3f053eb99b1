use Rattle.mate_core.proofs.AnswerLemmas.{as_good-decides}
use Rattle.mate_core.proofs.best_fact.as_good_facts_serve_as_much.Goals as goal

pub returns : goal.returns
returns c = as_good-decides
