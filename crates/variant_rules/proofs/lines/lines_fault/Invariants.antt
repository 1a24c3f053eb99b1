use Rattle.std.proofs.Common.{◌≡◌, drop}
use Rattle.variant_model.specs.Entry.{lines_fault}
use Rattle.variant_rules.proofs.lines.lines_fault.Given as goal

abbrev pub invariant-loop-line : goal.invariant-loop-line
invariant-loop-line l = lines_fault l.lines ≡ lines_fault (drop l.line-index l.lines)
