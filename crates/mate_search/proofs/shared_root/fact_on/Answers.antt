use Rattle.std.proofs.Common.{refl}
use Rattle.forced_wins.specs.declared.fact.Fact.{Fact}
use Rattle.mate_search.proofs.HandedLaws.{fact_serves, fact_true}
use Rattle.mate_search.proofs.shared_root.fact_on.Goals as goal

pub returns-clause-truth : goal.returns-clause-truth
returns-clause-truth c =
    let k : Fact = record { repeat = c.repeat_of.result; attacker = c.args.frame.now.attacker; moves = c.args.n; counter = c.args.p.now.counter; best = c.args.verdict.best; wins = c.args.verdict.won } in
    fact_true c.args.frame.now k c.args.p.now c.args.n c.repeat_of.ensures refl refl c.requires

pub returns-clause-serves : goal.returns-clause-serves
returns-clause-serves c =
    let k : Fact = record { repeat = c.repeat_of.result; attacker = c.args.frame.now.attacker; moves = c.args.n; counter = c.args.p.now.counter; best = c.args.verdict.best; wins = c.args.verdict.won } in
    fact_serves k c.args.p.now c.args.n c.repeat_of.ensures refl refl
