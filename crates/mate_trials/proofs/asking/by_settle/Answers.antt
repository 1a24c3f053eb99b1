use Rattle.mate_trials.proofs.asking.by_settle.Goals as goal

pub returns-clause-parts : goal.returns-clause-parts
returns-clause-parts g c = c.settle-passes.ensures.handed.parts 65536 c.requires.parts
