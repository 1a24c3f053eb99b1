use Rattle.fact_lock.specs.Passes.{IsPassOf}
use Rattle.speeds.proofs.lock.call_often.Given as goal

abbrev pub invariant-loop-i : goal.invariant-loop-i
invariant-loop-i g l = IsPassOf l.lock l.pass
