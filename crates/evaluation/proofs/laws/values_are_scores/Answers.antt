use Rattle.evaluation.proofs.ScoreLaws.{quiet-score, root_value-score, value-score}
use Rattle.evaluation.proofs.laws.values_are_scores.Goals as goal

pub returns : goal.returns
returns g c = record {
  quiet_values = λ play laws. quiet-score play laws;
  values = λ play laws. value-score play laws;
  roots = λ play laws. root_value-score play laws;
}
