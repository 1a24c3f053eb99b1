use Rattle.std.proofs.Common.{◌≡◌, ℕ, true, ◌<◌}
use Rattle.rules_model.specs.Attacks.{is_own_pawn}
use Rattle.rules_model.specs.Repeats.{repeat_of}
use Rattle.rules_model.specs.Squares.{cell_at}
use Rattle.square_set.specs.Members.{has, size}
use Rattle.piece_moves.specs.InTurn.{Outside, start_of}
use Rattle.piece_moves.specs.Taking.{TakesAll}
use Rattle.special_moves.specs.PawnMoves.{FitPawnMoves}
use Rattle.special_moves.proofs.pawn_generate.push_pawn_moves.Given as goal

abbrev pub invariant-loop-from : goal.invariant-loop-from
invariant-loop-from g l = record {
  small : (s : ℕ) → has l.left s ≡ true → s < 120;
  own : (s : ℕ) → has l.left s ≡ true → is_own_pawn l.rules l.p.side (cell_at l.p.cells s) ≡ true;
  taken : TakesAll g.S.MoveSink.takes (Outside (FitPawnMoves l.rules (repeat_of l.p)) start_of l.left) l.fn.out l.out;
}

abbrev pub decreases-loop-from : goal.decreases-loop-from
decreases-loop-from g l = size l.left
