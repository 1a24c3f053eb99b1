use Rattle.evaluation.specs.Values.{root_score, root_value, worst}
use Rattle.evaluation.proofs.Greatest.{greatest-set}
use Rattle.evaluation.proofs.laws.roots_are_a_set.Goals as goal

pub returns : goal.returns
unfolding root_value
returns g c = λ play depth x roots others to from. greatest-set (root_score play depth x) worst roots others to from
