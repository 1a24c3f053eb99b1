use Rattle.std.proofs.Common.{rules, Ok, sym, ◌∙◌, ap}
use Rattle.game_play.specs.Played.{story}
use Rattle.pn_search.proofs.CountLaws.{count-ended, count-least, count-near}
use Rattle.pn_search.proofs.mating.least_mate.Goals as goal

pub returns-then-ne : goal.returns-then-ne
returns-then-ne c = sym (count-ended c.args.game.now.rules c.args.n (story c.args.game.now) (search rules))

pub returns-then-is_counted : goal.returns-then-is_counted
returns-then-is_counted c = sym (count-near c.args.game.now.rules c.args.n (story c.args.game.now) (search rules) (search rules))

pub returns : goal.returns
returns c = ap Ok (c.in_ok-least.ensures) ∙ sym (count-least c.args.game.now.rules c.args.n (story c.args.game.now) (search rules) (search rules))
