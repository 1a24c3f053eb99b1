use Rattle.evaluation.proofs.GamesByRules.{root_attains}
use Rattle.evaluation.proofs.ScoreLaws.{roots_attain}
use Rattle.evaluation.proofs.laws.some_root_move_attains_the_value.Goals as goal

pub returns : goal.returns
returns g c = record {
  any_game = λ play laws. roots_attain play laws;
  by_rules = root_attains;
}
