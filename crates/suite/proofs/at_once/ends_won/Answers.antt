use Rattle.suite.proofs.AtOnceLaws.{ended-is}
use Rattle.suite.proofs.at_once.ends_won.Goals as goal

pub returns-clause-is : goal.returns-clause-is
returns-clause-is c =
    ended-is c.args.game.now c.play_on.new.game c.args.reply.now c.args.side c.outcome.result c.won_by.result
    c.unwrap_or-won.result c.in_ok-play_on.ensures.played c.outcome.ensures c.won_by.ensures c.unwrap_or-won.ensures
