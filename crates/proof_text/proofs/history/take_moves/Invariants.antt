use Rattle.std.proofs.Common.{◌≤◌, ◌+◌, ◌-◌}
use Rattle.proof_text.specs.Reading.{moves_on}
use Rattle.proof_text.specs.TakingView.{GoesOn}
use Rattle.proof_text.proofs.history.take_moves.Given as goal

abbrev pub invariant-loop-done : goal.invariant-loop-done
invariant-loop-done g l = record {
  goes : GoesOn (g.S.Source.left l.initial.source) (g.S.Source.left l.source) (moves_on l.count l.number l.initial.game) (moves_on (l.count - l.done) (l.number + l.done) l.game);
  later : g.S.Source.faults l.initial.source ≤ g.S.Source.faults l.source;
}
