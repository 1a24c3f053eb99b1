use Rattle.suite.proofs.AnswerLaws.{none-answer, won-answer}
use Rattle.suite.proofs.settling.answer_of.Goals as goal

pub returns-in-Some : goal.returns-in-Some
returns-in-Some c = won-answer c.args.problem.now _ (rw c.in-Some.is at c.requires)

pub returns-in-None : goal.returns-in-None
returns-in-None c = none-answer c.args.problem.now (rw c.in-None.is at c.requires)
