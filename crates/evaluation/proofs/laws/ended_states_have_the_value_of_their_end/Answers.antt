use Rattle.evaluation.proofs.ScoreLaws.{quiet-ended, value-ended}
use Rattle.evaluation.proofs.laws.ended_states_have_the_value_of_their_end.Goals as goal

pub returns : goal.returns
returns g c = record {
  values = λ play. value-ended play;
  quiet_values = λ play. quiet-ended play;
}
