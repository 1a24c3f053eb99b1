use Rattle.std.proofs.Common.{◌≡◌, ℕ, true}
use Rattle.rules_model.specs.Repeats.{repeat_of}
use Rattle.square_set.specs.Members.{has, size}
use Rattle.piece_moves.specs.InTurn.{Outside, target_of}
use Rattle.piece_moves.specs.Taking.{TakesAll}
use Rattle.piece_moves.specs.Parts.{IsMoveFrom}
use Rattle.piece_moves.proofs.generate.push_each.Given as goal

abbrev pub invariant-loop-to : goal.invariant-loop-to
invariant-loop-to g l = record {
  within : (s : ℕ) → has l.left s ≡ true → has l.mover.targets s ≡ true;
  taken : TakesAll g.S.MoveSink.takes (Outside (IsMoveFrom l.rules (repeat_of l.p) l.mover.from l.gate) target_of l.left) l.initial.out l.out;
}

abbrev pub decreases-loop-to : goal.decreases-loop-to
decreases-loop-to g l = size l.left
