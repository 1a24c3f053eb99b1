use Rattle.std.proofs.Common.{arith}
use Rattle.std.specs.Prelude.{◌<ℤ◌}
use Rattle.std.proofs.lemmas.Int.{ints}
use Rattle.negamax.proofs.facts.most_of.Goals as goal

pub returns-then-asked-window-clause-most : goal.returns-then-asked-window-clause-most
returns-then-asked-window-clause-most c = λ v within told.
    let l = c.requires.within.least in let u = c.requires.within.most in let test = c.if-asked-window.true in
    let reach : c.args.asked <ℤ c.args.window.beta = grind (arith, ints, test) in
    let high = told.high reach in
    omega (arith, ints)

pub returns-else-asked-window-clause-most : goal.returns-else-asked-window-clause-most
returns-else-asked-window-clause-most c = λ v within told.
    let u = within.most in omega (arith, ints)
