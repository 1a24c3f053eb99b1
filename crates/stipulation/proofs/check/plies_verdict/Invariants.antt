use Rattle.std.proofs.Common.{◌≡◌, ◌+◌, ◌≤◌, drop}
use Rattle.stipulation.specs.Verdicts.{plies_verdict}
use Rattle.stipulation.proofs.check.plies_verdict.Given as goal

abbrev pub invariant-loop-i : goal.invariant-loop-i
invariant-loop-i l = record {
  rest : plies_verdict (l.i + 1) l.before (drop l.i l.steps) ≡ plies_verdict 1 0 l.steps;
  few : l.before ≤ 65535;
}
