-- the terms of the steps so far are added
use Rattle.std.proofs.Common.{◌≡◌, ◌++◌, map, take}
use Rattle.betza_compile.specs.Terms.{term_of}
use Rattle.betza_compile.proofs.push_terms.Given as goal

abbrev pub invariant-loop-step : goal.invariant-loop-step
invariant-loop-step l = l.out.items ≡ l.initial.out.items ++ map (term_of l.part) (take l.step-index l.step-items)
