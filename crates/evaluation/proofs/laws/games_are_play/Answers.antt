use Rattle.evaluation.proofs.GamesByRules.{play_laws}
use Rattle.evaluation.proofs.laws.games_are_play.Goals as goal

pub returns : goal.returns
returns c = play_laws
