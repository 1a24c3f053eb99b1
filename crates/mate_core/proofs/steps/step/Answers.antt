use Rattle.mate_core.specs.Steps.{step}
use Rattle.mate_core.proofs.TruthLemmas.{reached-true, is-reached, is-true, stepped}
use Rattle.mate_core.proofs.steps.step.Goals as goal

pub returns-in-Publish-clause-reached : goal.returns-in-Publish-clause-reached
unfolding step
returns-in-Publish-clause-reached c =
    is-reached c.args.store c.args.e.now c.publish.result (stepped c.args.store c.args.e.now _ c.in-Publish.is c.publish.result c.publish.ensures)

pub returns-in-Publish-clause-truth : goal.returns-in-Publish-clause-truth
unfolding step
returns-in-Publish-clause-truth c =
    is-true c.args.store c.args.e.now c.publish.result (stepped c.args.store c.args.e.now _ c.in-Publish.is c.publish.result c.publish.ensures)

pub returns-in-Look-clause-reached : goal.returns-in-Look-clause-reached
unfolding step
returns-in-Look-clause-reached c =
    is-reached c.args.store c.args.e.now c.look.result (stepped c.args.store c.args.e.now _ c.in-Look.is c.look.result c.look.ensures)

pub returns-in-Look-clause-truth : goal.returns-in-Look-clause-truth
unfolding step
returns-in-Look-clause-truth c =
    is-true c.args.store c.args.e.now c.look.result (stepped c.args.store c.args.e.now _ c.in-Look.is c.look.result c.look.ensures)

pub returns-in-Hint-clause-truth : goal.returns-in-Hint-clause-truth
returns-in-Hint-clause-truth c r ok = reached-true c.args.store r
