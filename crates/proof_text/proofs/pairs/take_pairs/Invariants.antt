use Rattle.std.proofs.Common.{◌≤◌, ◌+◌, ◌-◌, []}
use Rattle.proof_text.specs.Reading.{pairs_on}
use Rattle.proof_text.specs.TakingView.{GoesOn}
use Rattle.proof_text.proofs.pairs.take_pairs.Given as goal

abbrev pub invariant-loop-done : goal.invariant-loop-done
invariant-loop-done g l = record {
  goes : GoesOn (g.S.Source.left l.initial.source) (g.S.Source.left l.source) (pairs_on l.count l.number []) (pairs_on (l.count - l.done) (l.number + l.done) l.pairs.items);
  later : g.S.Source.faults l.initial.source ≤ g.S.Source.faults l.source;
}
