use Rattle.std.proofs.Common.{◌≡◌, ℕ, true, not, ◌<◌}
use Rattle.rules_model.specs.Attacks.{is_own}
use Rattle.rules_model.specs.Kinds.{is_pawn}
use Rattle.rules_model.specs.Repeats.{repeat_of}
use Rattle.rules_model.specs.Squares.{cell_at}
use Rattle.square_set.specs.Members.{has, size}
use Rattle.piece_moves.specs.InTurn.{Outside, start_of}
use Rattle.piece_moves.specs.Taking.{TakesAll}
use Rattle.piece_moves.specs.Parts.{FitMovesFrom}
use Rattle.piece_moves.proofs.generate.push_moves_from.Given as goal

abbrev pub invariant-loop-at : goal.invariant-loop-at
invariant-loop-at g l = record {
  small : (s : ℕ) → has l.left s ≡ true → s < 120;
  own : (s : ℕ) → has l.left s ≡ true → is_own l.p.side (λ kind. not (is_pawn l.tables kind)) (cell_at l.p.cells s) ≡ true;
  from : (s : ℕ) → has l.left s ≡ true → has l.fn.from s ≡ true;
  taken : TakesAll g.S.MoveSink.takes (Outside (FitMovesFrom l.tables (repeat_of l.p) l.fn.from) start_of l.left) l.initial.out l.out;
}

abbrev pub decreases-loop-at : goal.decreases-loop-at
decreases-loop-at g l = size l.left
