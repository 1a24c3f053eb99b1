use Rattle.std.proofs.Common.{◌≡◌, ◌==◌, ◌+◌, ◌<◌, ℕ, count_by, get_or, length, min}
use Rattle.variant_fen.proofs.pocket.hand.Given as goal

abbrev pub invariant-loop-kind : goal.invariant-loop-kind
invariant-loop-kind l = record {
  long : length l.hand ≡ 26;
  said : (k : ℕ) → k < l.kind → get_or l.hand k 0 ≡ min 255 (count_by (λ c. c == l.first + k) l.letters);
}
