use Rattle.std.proofs.Common.{arith}
use Rattle.std.specs.Prelude.{◌<ℤ◌}
use Rattle.std.proofs.lemmas.Int.{ints}
use Rattle.negamax.proofs.facts.least_of.Goals as goal

pub returns-then-asked-window-clause-least : goal.returns-then-asked-window-clause-least
returns-then-asked-window-clause-least c = λ v within told.
    let l = c.requires.within.least in let u = c.requires.within.most in let test = c.if-asked-window.true in
    let reach : c.args.window.alpha <ℤ c.args.asked = grind (arith, ints, test) in
    let low = told.low reach in
    omega (arith, ints)

pub returns-else-asked-window-clause-least : goal.returns-else-asked-window-clause-least
returns-else-asked-window-clause-least c = λ v within told.
    let l = within.least in omega (arith, ints)
