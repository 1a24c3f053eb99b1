use Rattle.std.proofs.Common.{sym, subst}
use Rattle.mate_shards.specs.Refuted.{RefutesAll}
use Rattle.speeds.proofs.facts.shards_for.Goals as goal

pub returns-clause-truth : goal.returns-clause-truth
returns-clause-truth c = subst RefutesAll (sym c.in-Ok.ensures.frame) c.drawn.ensures
