use Rattle.std.proofs.Common.{sym, subst}
use Rattle.mate_core.specs.Runs.{IsTrueIn}
use Rattle.mate_fact.proofs.FactLemmas.{won-by}
use Rattle.mate_fact.proofs.won.by_move_within.Goals as goal

pub returns-clause-truth : goal.returns-clause-truth
returns-clause-truth c =
    subst (IsTrueIn c.args.frame.now) (sym c.win_of.ensures)
    (won-by c.args.frame.now c.args.p.now c.args.moves c.args.m.now c.requires.attack c.requires.legal c.requires.won)
