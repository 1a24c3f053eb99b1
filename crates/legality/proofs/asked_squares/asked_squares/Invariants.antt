use Rattle.std.proofs.Common.{◌≡◌, ℕ, true, false, not, ◌<◌}
use Rattle.rules_model.specs.Attacks.{is_own}
use Rattle.rules_model.specs.Kinds.{is_pawn}
use Rattle.rules_model.specs.Repeats.{repeat_of}
use Rattle.rules_model.specs.Squares.{cell_at}
use Rattle.square_set.specs.Members.{has, size}
use Rattle.legality.specs.AskedSquares.{AsksNoneFrom}
use Rattle.legality.proofs.asked_squares.asked_squares.Given as goal

abbrev pub invariant-loop-from : goal.invariant-loop-from
invariant-loop-from l = record {
  small : (s : ℕ) → has l.left s ≡ true → s < 120;
  own : (s : ℕ) → has l.left s ≡ true → is_own l.p.side (λ kind. not (is_pawn l.tables kind)) (cell_at l.p.cells s) ≡ true;
  shut : (s : ℕ) → has l.left s ≡ true → has l.asked.shut s ≡ true;
  none : (s : ℕ) → has l.initial.squares s ≡ true → has l.squares s ≡ false → AsksNoneFrom l.asked l.tables (repeat_of l.p) s;
}

abbrev pub decreases-loop-from : goal.decreases-loop-from
decreases-loop-from l = size l.left
