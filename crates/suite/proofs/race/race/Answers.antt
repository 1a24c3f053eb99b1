use Rattle.std.proofs.Common.{arith, subst, sym}
use Rattle.suite.specs.declared.work.Job.{Job}
use Rattle.suite.specs.Workers.{HasFound}
use Rattle.suite.proofs.race.race.Goals as goal

pub race-requires-clause-help : goal.race-requires-clause-help
race-requires-clause-help g c = λ u v i p low is.
    let most = c.requires.count in
    (subst (λ (j : Job). HasFound c.args.problems.now j) (sym is) (c.requires.found.each i p.now low), c.requires.fair, omega (arith, low, most))
