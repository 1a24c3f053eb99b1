use Rattle.std.proofs.Common.{◌≡◌, vec_len}
use Rattle.std.specs.List.{All}
use Rattle.alpha_beta.specs.Workers.{IsNew}
use Rattle.alpha_beta.proofs.jobs.jobs_for.Given as goal

abbrev pub invariant-loop-job : goal.invariant-loop-job
invariant-loop-job l = record { none : All IsNew l.jobs.items; count : vec_len l.jobs ≡ l._job }
