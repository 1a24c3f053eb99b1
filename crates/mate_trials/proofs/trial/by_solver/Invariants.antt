use Rattle.mate_shards.specs.Grown.{HaveParts}
use Rattle.mate_shards.specs.Views.{ArePassesOf}
use Rattle.mate_trials.proofs.trial.by_solver.Given as goal

abbrev pub invariant-loop-n : goal.invariant-loop-n
invariant-loop-n g l = record { passes : ArePassesOf l.shards l.passes; parts : HaveParts 65536 l.passes }
