use Rattle.std.proofs.Common.{sym, subst, ◌≡◌, None, false, rules, ◌+◌}
use Rattle.forced_wins.specs.Facts.{fact_of, smaller}
use Rattle.mate_core.specs.Runs.{IsTrueIn}
use Rattle.mate_fact.proofs.FactLemmas.{refuted-within}
use Rattle.mate_fact.proofs.refuted.refuted_by_all_within.Goals as goal

pub returns-clause-truth : goal.returns-clause-truth
returns-clause-truth c =
    let is : c.refutation_of.result ≡ fact_of c.args.p.now c.args.frame.now.attacker (smaller (c.args.moves + 1) 65535) None false = search rules in
    subst (IsTrueIn c.args.frame.now) (sym is)
    (refuted-within c.args.frame.now c.args.p.now c.args.moves c.requires.attack c.requires.refuted)
