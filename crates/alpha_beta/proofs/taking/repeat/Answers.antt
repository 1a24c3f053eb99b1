use Rattle.std.proofs.Common.{◌≡◌, rules}
use Rattle.io_ports.specs.declared.limits.SearchFault.TheVariants as fault
use Rattle.watching.specs.declared.halt.Halt.TheVariants as halt
use Rattle.watching.specs.LookLaws.{either_way}
use Rattle.alpha_beta.proofs.taking.repeat.Goals as goal

pub returns-then-racer-clause-gone : goal.returns-then-racer-clause-gone
returns-then-racer-clause-gone g c =
    let told = c.if-racer.true in
    let went = either_way c.take-end.result c.take-end.ensures.gone (λ why is. let e = c.take-end.ensures.ended why is in (e.0, e.1 told)) in
    let same = went.0 in
    let gone = went.1 in
    search rules

pub returns-in_err-line-clause-ended : goal.returns-in_err-line-clause-ended
returns-in_err-line-clause-ended g c why is =
    let told = c.if-racer.true in
    let went = either_way c.take-end.result c.take-end.ensures.gone (λ why is. let e = c.take-end.ensures.ended why is in (e.0, e.1 told)) in
    let name = went.0 in
    let gone = went.1 in
    let ended = g.met.W.Watch.memory _ _ _ gone in
    let same : halt.Fault fault.Memory ≡ why = search rules in
    search rules

pub returns-clause-ended : goal.returns-clause-ended
returns-clause-ended g c why is =
    let e = c.take-end.ensures.ended why is in
    let same = e.0 in
    let ended = e.2 c.if-racer.false in
    search rules
