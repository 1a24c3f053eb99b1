use Rattle.std.proofs.Common.{rules}
use Rattle.forced_wins.specs.Facts.{RefutedNow, refuted_now}
use Rattle.mate_fact.proofs.FactLemmas.{truth-now}
use Rattle.mate_fact.proofs.refuted.refuted_where.Goals as goal

pub returns-in-Some-false-clause-truth : goal.returns-in-Some-false-clause-truth
returns-in-Some-false-clause-truth c =
    let f = c.args.frame.now in
    let now : RefutedNow f.rules f.blocked f.attacker c.args.p.now c.refutation_of.result = search rules in
    truth-now f c.args.p.now c.refutation_of.result (refuted_now now)

pub returns-in-None-clause-truth : goal.returns-in-None-clause-truth
returns-in-None-clause-truth c =
    let f = c.args.frame.now in
    let now : RefutedNow f.rules f.blocked f.attacker c.args.p.now c.refutation_of-in-None.result = search rules in
    truth-now f c.args.p.now c.refutation_of-in-None.result (refuted_now now)
