use Rattle.std.proofs.Common.{arith}
use Rattle.std.proofs.lemmas.Int.{ints, clamps}
use Rattle.negamax.proofs.window.Window.between.Goals as goal

pub returns-clause-alpha : goal.returns-clause-alpha
returns-clause-alpha c =
    let is = c.clamp-alpha.ensures.value in let fits = c.ranges.floor.sfits in
    omega (arith, ints, clamps, is)

pub returns-clause-beta : goal.returns-clause-beta
returns-clause-beta c =
    let is = c.clamp.ensures.value in let fits = c.ranges.roof.sfits in
    let low = c.clamp-alpha.ensures.lower_bound in let high = c.clamp-alpha.ensures.upper_bound in
    omega (arith, ints, clamps, is)
