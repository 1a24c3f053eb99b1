use Rattle.evaluation.proofs.ScoreLaws.{large_score}
use Rattle.evaluation.proofs.TreeLaws.{mates_near}
use Rattle.evaluation.proofs.laws.mates_are_near.Goals as goal

pub returns : goal.returns
returns c = record { ends = large_score; solves = mates_near }
