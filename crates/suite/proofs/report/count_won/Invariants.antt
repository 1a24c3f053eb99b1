use Rattle.std.proofs.Common.{◌≡◌, ◌≤◌, count_by, is_some, take}
use Rattle.suite.specs.declared.problem.Answer.{Answer}
use Rattle.suite.proofs.report.count_won.Given as goal

abbrev pub invariant-loop-answer : goal.invariant-loop-answer
invariant-loop-answer l = record {
  count : l.won ≡ count_by (λ (a : Answer). is_some a.least) (take l.answer-index l.answers);
  few : l.won ≤ l.answer-index;
}
