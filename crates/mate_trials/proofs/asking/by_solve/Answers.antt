use Rattle.std.proofs.Common.{arith}
use Rattle.mate_trials.proofs.asking.by_solve.Goals as goal

pub solve_watched-passes-requires-clause-parts : goal.solve_watched-passes-requires-clause-parts
solve_watched-passes-requires-clause-parts g c κs within = (65536, c.requires.parts, omega (arith, c.requires.workers))

pub returns-in-Ok-clause-parts : goal.returns-in-Ok-clause-parts
returns-in-Ok-clause-parts g c = c.solve_watched-passes.ensures.handed.parts 65536 c.requires.parts
