use Rattle.std.proofs.lemmas.List.Elements.{All-pop}
use Rattle.suite.specs.Workers.{HasFound}
use Rattle.suite.proofs.solving.gather.Goals as goal

pub put_all-requires-in-Some-clause-found : goal.put_all-requires-in-Some-clause-found
put_all-requires-in-Some-clause-found c =
    let parts = All-pop (HasFound c.args.problems.now) c.loop-job.jobs.items c.pop.new.self.items c.pop.result c.pop.ensures.items c.loop-job.invariant.found.each in
    let job : HasFound c.args.problems.now c.in-Some.job = rw c.in-Some.is at parts.1 in
    job.found

pub loop-job-preserved : goal.loop-job-preserved
loop-job-preserved c =
    let parts = All-pop (HasFound c.args.problems.now) c.loop-job.jobs.items c.pop.new.self.items c.pop.result c.pop.ensures.items c.loop-job.invariant.found.each in
    record { slots = c.put_all-in-Some.ensures; found = record { each = parts.0 } }
