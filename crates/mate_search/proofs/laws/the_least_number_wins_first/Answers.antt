use Rattle.mate_search.specs.Least.{least, mover_wins}
use Rattle.mate_search.proofs.LeastLaws.{first-is}
use Rattle.mate_search.proofs.laws.the_least_number_wins_first.Goals as goal

pub returns : goal.returns
unfolding least
returns c = record { law = λ rules n g. first-is (mover_wins rules g) n }
