use Rattle.std.proofs.Common.{rules}
use Rattle.watching.specs.LookLaws.{either_way, on_ok_of}
use Rattle.mate_search.proofs.racing.lead.Goals as goal

pub returns-then-racer-clause-gone : goal.returns-then-racer-clause-gone
returns-then-racer-clause-gone g c =
    let told = c.if-racer.true in
    let went = either_way c.take_all-end.result c.take_all-end.ensures.gone (λ why is. let e = c.take_all-end.ensures.ended why is in (e.0, e.1 told)) in
    let same = went.0 in
    let gone = went.1 in
    search rules

pub returns-clause-gone : goal.returns-clause-gone
returns-clause-gone g c =
    on_ok_of c.take_all-end.result c.take_all-end.ensures.gone (λ went. let same = went.0 in let gone = went.1 in search rules)

pub returns-clause-ended : goal.returns-clause-ended
returns-clause-ended g c why is =
    let e = c.take_all-end.ensures.ended why is in
    let same = e.0 in
    let ended = e.2 c.if-racer.false in
    search rules
