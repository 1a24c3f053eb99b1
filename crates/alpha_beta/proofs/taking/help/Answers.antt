use Rattle.std.proofs.Common.{◌+◌, ◌≤◌, ℕ, Result, Ok, Err, OnOk, IsErrOf, arith, refl}
use Rattle.watching.specs.Helping.{Helps, HelpEnds}
use Rattle.watching.specs.declared.halt.Halt.{Halt}
use Rattle.watching.specs.declared.helper.Helper.{Helper}
use Rattle.alpha_beta.specs.Workers.{lines_in}
use Rattle.alpha_beta.proofs.taking.help.Goals as goal

few : (a b : Helper) (n : ℕ) (r : Result (Unit {0}) Halt) → OnOk r (Helps a b n)
    → ((why : Halt) → IsErrOf r why → HelpEnds a b n why) → b.nodes ≤ a.nodes + n
few a b n (Ok done) gone ended = gone.counts.1
few a b n (Err why) gone ended = (ended why refl).helps.counts.1

pub returns-clause-nodes : goal.returns-clause-nodes
returns-clause-nodes g c =
    let n : ℕ = lines_in c.args.plan.now in
    let bound = few _ c.take_some.new.watch n c.take_some.result c.take_some.ensures.gone c.take_some.ensures.ended in
    let is = c.nodes-job.ensures in
    omega (arith, bound, is)
