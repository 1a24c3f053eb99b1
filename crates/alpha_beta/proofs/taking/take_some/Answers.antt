use Rattle.std.proofs.Common.{◌≡◌, ◌≤◌, ℕ, rules, subst, arith}
use Rattle.io_ports.specs.declared.limits.SearchFault.TheVariants as fault
use Rattle.watching.specs.declared.halt.Halt.{Halt}
use Rattle.watching.specs.declared.halt.Halt.TheVariants as halt
use Rattle.watching.specs.LookLaws.{on_ok_of}
use Rattle.alpha_beta.specs.Workers.{lines_in}
use Rattle.alpha_beta.proofs.taking.take_some.Goals as goal

pub returns-in_err-line-clause-ended : goal.returns-in_err-line-clause-ended
returns-in_err-line-clause-ended g c why is =
    let same : halt.Fault fault.Memory ≡ why = search rules in
    let n : ℕ = lines_in c.args.plan.now in
    let le : 0 ≤ n = omega arith in
    let a = c.args.watch.now in
    subst (λ (w : Halt). g.W.Watch.ended a a n w) same (g.met.W.Watch.memory a a n (g.met.W.Watch.wider a a 0 n (g.met.W.Watch.none a) le))

pub returns-clause-gone : goal.returns-clause-gone
returns-clause-gone g c =
    on_ok_of c.take_free.result c.take_free.ensures.gone (λ e. g.met.W.Watch.wider _ _ _ _ e.went (let fits = e.fits in omega (arith, fits)))
