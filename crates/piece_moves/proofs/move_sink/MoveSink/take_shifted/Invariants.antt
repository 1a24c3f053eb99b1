use Rattle.std.proofs.Common.{◌≡◌, ℕ, true}
use Rattle.square_set.specs.Members.{has, size}
use Rattle.piece_moves.specs.InTurn.{GoesBy, Outside, target_of}
use Rattle.piece_moves.specs.Taking.{TakesAll}
use Rattle.piece_moves.proofs.move_sink.MoveSink.take_shifted.Given as goal

abbrev pub invariant-loop-to : goal.invariant-loop-to
invariant-loop-to g l = record {
  within : (s : ℕ) → has l.left s ≡ true → has l.fn.targets s ≡ true;
  taken : TakesAll g.Self.MoveSink.takes (Outside (GoesBy l.fn.shift l.fn.targets) target_of l.left) l.initial.self l.self;
}

abbrev pub decreases-loop-to : goal.decreases-loop-to
decreases-loop-to g l = size l.left
