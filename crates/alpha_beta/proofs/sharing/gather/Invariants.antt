use Rattle.alpha_beta.specs.Workers.{AreTrueFacts}
use Rattle.alpha_beta.proofs.sharing.gather.Given as goal

abbrev pub invariant-loop-job : goal.invariant-loop-job
invariant-loop-job g l = AreTrueFacts l.plan l.facts.items
