use Rattle.std.proofs.Common.{◌≡◌, take}
use Rattle.alpha_beta.specs.Workers.{most_nodes}
use Rattle.alpha_beta.proofs.jobs.greatest_count.Given as goal

abbrev pub invariant-loop-job : goal.invariant-loop-job
invariant-loop-job l = l.most ≡ most_nodes l.nodes (take l.job-index l.jobs)
