use Rattle.suite.proofs.AnswerLaws.{alone-limit, alone-won}
use Rattle.suite.proofs.settling.solve.Goals as goal

pub least_win-requires-clause-uncounted : goal.least_win-requires-clause-uncounted
least_win-requires-clause-uncounted g c =
    alone-limit c.args.problem.now c.in_ok-game.game c.in_ok-game.ensures c.requires.uncounted

pub answer_of-requires : goal.answer_of-requires
answer_of-requires g c =
    alone-won c.args.problem.now c.in_ok-game.game c.in_ok-game.ensures c.in_ok-won.won c.in_ok-won.ensures
