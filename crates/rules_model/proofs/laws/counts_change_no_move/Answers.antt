use Rattle.std.proofs.Common.{ap}
use Rattle.rules_model.specs.declared.board.Repeat.{Repeat}
use Rattle.rules_model.specs.Legal.{legal, own_end}
use Rattle.rules_model.proofs.laws.counts_change_no_move.Goals as goal

pub returns : goal.returns
returns c = record {
  moves = λ rules p q e. ap (legal rules) e;
  ends = λ rules p q e. ap (own_end rules) e;
  sides = λ p q e. ap (λ (r : Repeat). r.side) e;
}
