use Rattle.std.proofs.Common.{rules}
use Rattle.forced_wins.specs.declared.fact.Fact.{Fact}
use Rattle.forced_wins.specs.Facts.{WonNow, won_now}
use Rattle.mate_fact.proofs.FactLemmas.{truth-now}
use Rattle.mate_fact.proofs.won.won_where.Goals as goal

pub returns-in-Some-true-clause-truth : goal.returns-in-Some-true-clause-truth
returns-in-Some-true-clause-truth c =
    let f = c.args.frame.now in
    let win : Fact = record (c.win_of.result) { counter = 9999 } in
    let now : WonNow f.rules f.blocked f.attacker c.args.p.now win = search rules in
    truth-now f c.args.p.now win (won_now now)
