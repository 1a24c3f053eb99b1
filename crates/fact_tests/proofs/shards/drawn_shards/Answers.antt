use Rattle.std.proofs.Common.{sym, subst}
use Rattle.mate_shards.specs.Refuted.{RefutesAll}
use Rattle.fact_tests.proofs.shards.drawn_shards.Goals as goal

pub returns-clause-truth : goal.returns-clause-truth
returns-clause-truth c = subst RefutesAll (sym c.in_ok-shards.ensures.frame) c.drawn.ensures
