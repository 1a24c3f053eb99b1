use Rattle.std.proofs.Common.{◌≡◌, ◌++◌, take}
use Rattle.suite.specs.Leasts.{leasts}
use Rattle.suite.specs.Report.{told_of_all}
use Rattle.suite.proofs.report.push_lines.Given as goal

abbrev pub invariant-loop-i : goal.invariant-loop-i
invariant-loop-i l = l.text.items ≡ l.initial.text.items ++ told_of_all (take l.i l.lines) (take l.i (leasts l.answers))
