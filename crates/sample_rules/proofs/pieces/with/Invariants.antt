-- the terms of the steps so far are added
use Rattle.std.proofs.Common.{◌≡◌, ◌++◌, map, take}
use Rattle.sample_rules.specs.Pieces.{term_of}
use Rattle.sample_rules.proofs.pieces.with.Given as goal

abbrev pub invariant-loop-step : goal.invariant-loop-step
invariant-loop-step l = l.items.items ≡ l.initial.items.items ++ map (term_of l.manner) (take l.step-index l.steps)
