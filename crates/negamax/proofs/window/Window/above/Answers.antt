use Rattle.std.proofs.Common.{arith}
use Rattle.std.proofs.lemmas.Int.{ints, clamps}
use Rattle.negamax.proofs.window.Window.above.Goals as goal

pub invariant_of-result : goal.invariant_of-result
invariant_of-result c =
    let low = c.requires.low in let within = c.requires.within in let least = within.least in let most = within.most in
    record { floor = omega (arith, ints, clamps); wide = omega (arith, ints, clamps); roof = omega (arith, ints, clamps) }

pub returns-clause-alpha : goal.returns-clause-alpha
returns-clause-alpha c =
    let low = c.requires.low in let within = c.requires.within in let least = within.least in let most = within.most in
    omega (arith, ints, clamps)
