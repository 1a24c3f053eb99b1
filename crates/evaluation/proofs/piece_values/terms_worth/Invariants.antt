use Rattle.std.proofs.Common.{◌≡◌, ◌*◌, ◌≤◌, sum_by, take}
use Rattle.evaluation.specs.Evaluation.{term_worth}
use Rattle.evaluation.proofs.piece_values.terms_worth.Given as goal

abbrev pub invariant-loop-term : goal.invariant-loop-term
invariant-loop-term l = record {
  is : l.worth ≡ sum_by term_worth (take l.term-index l.terms);
  few : l.worth ≤ 120 * l.term-index;
}
