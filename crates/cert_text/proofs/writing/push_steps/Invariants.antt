use Rattle.std.proofs.Common.{◌≡◌, ◌++◌, drop, map}
use Rattle.strategy.specs.Writing.{ended_lines}
use Rattle.cert_text.specs.Writing.{step_text}
use Rattle.cert_text.proofs.writing.push_steps.Given as goal

abbrev pub invariant-loop-s : goal.invariant-loop-s
invariant-loop-s l = l.initial.text.items ++ ended_lines (map step_text l.steps) ≡ l.text.items ++ ended_lines (map step_text (drop l.s-index l.steps))
