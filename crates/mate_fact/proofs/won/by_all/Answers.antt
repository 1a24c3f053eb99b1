use Rattle.std.proofs.Common.{rules}
use Rattle.mate_fact.specs.InFrame as In
use Rattle.mate_fact.proofs.FactLemmas.{truth-passes}
use Rattle.mate_fact.proofs.won.by_all.Goals as goal

pub returns-clause-truth : goal.returns-clause-truth
returns-clause-truth c =
    let derived : In.DerivesIn c.args.frame.now c.args.known.now c.args.p.now c.win_of.result = search rules in
    truth-passes c.args.frame.now c.args.p.now c.args.known.now c.win_of.result derived
