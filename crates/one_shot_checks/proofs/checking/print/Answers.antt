use Rattle.std.proofs.Common.{refl}
use Rattle.one_shot_checks.specs.CheckView.{Prints, losing, winning}
use Rattle.one_shot_checks.proofs.NoAnswerLemmas.{says_at}
use Rattle.one_shot_checks.proofs.checking.print.Goals as goal

pub returns-in_ok-wins-in-Wins-clause-prints : goal.returns-in_ok-wins-in-Wins-clause-prints
returns-in_ok-wins-in-Wins-clause-prints c = rw c.in-Wins.is (says_at (Prints _) 0 0 _ _ refl c.in_ok-wins-in-Wins.ensures winning)

pub returns-in_default-clause-prints : goal.returns-in_default-clause-prints
returns-in_default-clause-prints c = losing c.args.verdict c.in_default.not-Wins
