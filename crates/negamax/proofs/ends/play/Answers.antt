use Rattle.negamax.proofs.ends.play.Goals as goal

pub returns-clause-tally : goal.returns-clause-tally
returns-clause-tally c = c.put.ensures.sums _ c.sums_after-sums.ensures
