use Rattle.mate_search.proofs.job.help.Goals as goal

pub returns : goal.returns
returns g c = record { lent = record { passes = c.take_free.ensures.handed.passes; part = c.take_free.ensures.handed.parts 1 c.requires.lent.part } }
