use Rattle.game_play.specs.Played.{story}
use Rattle.stipulation.specs.Searches.{self_found}
use Rattle.stipulation.proofs.MateLaws.{answered-ok, self-none, self-found, self-found-wins}
use Rattle.stipulation.proofs.SearchLemmas.{ok-match, ok-some}
use Rattle.stipulation.proofs.mates.self_mate.Goals as goal

pub returns-clause-found : goal.returns-clause-found
returns-clause-found c =
    let rules = c.args.game.now.rules in
    let g = story c.args.game.now in
    ok-match _ _ _ _ c.find.result c.find.ensures.found (self-none rules c.args.n g) (λ k e. self-found rules c.args.n g k.steps e)

pub returns-clause-wins : goal.returns-clause-wins
returns-clause-wins c =
    let rules = c.args.game.now.rules in
    let g = story c.args.game.now in
    ok-some _ _ _ c.find.result c.find.ensures.found (λ k e. self-found-wins rules c.args.n g k.steps e)

pub returns-clause-is : goal.returns-clause-is
returns-clause-is c = answered-ok (self_found c.args.game.now.rules c.args.n (story c.args.game.now)) c.find.result c.find.ensures.found
