-- The list of moves as a sink.
use Rattle.std.proofs.Common.{◌≡◌, ◌++◌, ap, sym, ◌∙◌, append-nil, append_assoc}
use Rattle.piece_moves.specs.Taking.{IsSink}

pub list_is_sink : IsSink (λ old ms new. new ≡ old ++ ms) (λ old ms new. new ≡ old ++ ms)
list_is_sink = record {
  none = λ s. sym (append-nil s);
  on = λ s t u xs ys e f. f ∙ ap (λ l. l ++ ys) e ∙ append_assoc s xs ys;
  full = λ s t u xs ys e f. f ∙ ap (λ l. l ++ ys) e ∙ append_assoc s xs ys;
}
