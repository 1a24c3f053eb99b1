use Rattle.std.proofs.Common.{◌≤◌}
use Rattle.suite.specs.Suite.{IsListed}
use Rattle.suite.proofs.ReadLemmas.{ReadOn}
use Rattle.suite.proofs.reading.add_lines.Given as goal

abbrev pub invariant-loop-number : goal.invariant-loop-number
invariant-loop-number g l = record {
  read : ReadOn l.variants (g.S.Source.left l.initial.source) (g.S.Source.left l.source) l.initial.suite l.suite l.number;
  listed : IsListed l.suite;
  later : g.S.Source.faults l.initial.source ≤ g.S.Source.faults l.source;
}
