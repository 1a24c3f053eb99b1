use Rattle.evaluation.proofs.ScoreLaws.{quiet-score, score_within, value-score}
use Rattle.evaluation.proofs.laws.values_stay_in_range.Goals as goal

pub returns : goal.returns
returns g c = record {
  quiet_values = λ play laws limit ply x. score_within _ _ _ (quiet-score play laws limit ply x);
  values = λ play laws depth ply x. score_within _ _ _ (value-score play laws depth ply x);
}
