use Rattle.std.proofs.Common.{List, ℕ, ◌∙◌, ap}
use Rattle.one_shot_checks.specs.Setup.{placed_all}
use Rattle.one_shot_checks.proofs.SetupLemmas.{split_none, split_some, placed_all-one, placed_all-more, placed_all-fault}
use Rattle.one_shot_checks.proofs.setup.+place_each.Goals as goal

pub returns-in-None : goal.returns-in-None
returns-in-None t c =
    rw (split_none c.args.text.now c.split_once.result c.split_once.ensures.cases c.in-None.is, placed_all-one c.args.side c.args.cells.now c.args.text.now) c.place.ensures

pub returns-in-Ok : goal.returns-in-Ok
returns-in-Ok t c =
    rw (split_some c.args.text.now c.split_once.result (c.in-Some.first, c.in-Some.rest) c.split_once.ensures.cases c.in-Some.is, placed_all-more c.args.side c.args.cells.now _ c.in-Some.first.now _ c.in-Ok.ensures) c.place_each.ensures

pub returns-in-Err : goal.returns-in-Err
returns-in-Err t c =
    ap (λ (x : List (List ℕ)). placed_all c.args.side x c.args.cells.now) (split_some c.args.text.now c.split_once.result (c.in-Some.first, c.in-Some.rest) c.split_once.ensures.cases c.in-Some.is)
    ∙ placed_all-fault c.args.side c.args.cells.now c.in-Some.first.now _ _ c.in-Err.ensures
