use Rattle.std.proofs.Common.{◌≡◌}
use Rattle.fact_lock.specs.Passes.{IsPassOf}
use Rattle.text_tests.proofs.locks.add_hundred.Given as goal

abbrev pub invariant-loop-i : goal.invariant-loop-i
invariant-loop-i g l = IsPassOf l.lock l.pass × (l.pass.parts ≡ l.initial.pass.parts)
