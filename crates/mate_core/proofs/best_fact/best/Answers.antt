use Rattle.std.proofs.Common.{None, ◌∙◌}
use Rattle.mate_core.proofs.AnswerLemmas.{best-fold}
use Rattle.mate_core.proofs.best_fact.best.Goals as goal

pub returns : goal.returns
returns c =
    c.walk.ensures ∙ best-fold c.args.repeat.now c.args.counter c.args.moves None c.args.facts.now
