use Rattle.std.proofs.Common.{arith}
use Rattle.mate_tests.proofs.solves.answer_with.Goals as goal

pub solve-requires-clause-parts : goal.solve-requires-clause-parts
solve-requires-clause-parts g c κs within = (65536, c.requires.parts, omega (arith, c.requires.workers))

pub returns-clause-parts : goal.returns-clause-parts
returns-clause-parts g c = c.solve.ensures.handed.parts 65536 c.requires.parts
