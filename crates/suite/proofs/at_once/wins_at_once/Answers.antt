use Rattle.std.proofs.Common.{◌∙◌, ap, sym}
use Rattle.std.proofs.lemmas.Result.{IfOk-weaker}
use Rattle.forced_wins.specs.Views.{won_by}
use Rattle.game_play.specs.Played.{story}
use Rattle.suite.proofs.AtOnceLaws.{ended-once, replied-once}
use Rattle.suite.proofs.at_once.wins_at_once.Goals as goal

pub returns-in-Some-clause-is : goal.returns-in-Some-clause-is
returns-in-Some-clause-is c =
    ended-once c.args.game.now.rules (story c.args.game.now) c.args.side c.in-Some.won c.requires.turn
    (ap (won_by c.args.side) (sym c.outcome.ensures) ∙ sym c.won_by.ensures ∙ c.in-Some.is)

pub returns-in-None-clause-is : goal.returns-in-None-clause-is
returns-in-None-clause-is c =
    let none = ap (won_by c.args.side) (sym c.outcome.ensures) ∙ sym c.won_by.ensures ∙ c.in-None.is in
    IfOk-weaker c.each_end_won.result _ _
    (λ all is. replied-once c.args.game.now.rules (story c.args.game.now) c.args.side all c.requires.turn none is)
    c.each_end_won.ensures.is
