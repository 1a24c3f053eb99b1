use Rattle.std.proofs.Common.{◌≡◌, ℕ, true}
use Rattle.square_set.specs.Members.{has, size}
use Rattle.piece_moves.specs.InTurn.{DropsOf, Outside, target_of}
use Rattle.legality.specs.Counts.{CountsAll}
use Rattle.legality.proofs.count_sink.CountSinkMoveSink.take_drops.Given as goal

abbrev pub invariant-loop-to : goal.invariant-loop-to
invariant-loop-to l = record {
  within : (s : ℕ) → has l.left s ≡ true → has l.fn.targets s ≡ true;
  taken : CountsAll (Outside (DropsOf l.kind l.fn.targets) target_of l.left) l.fn.self l.self;
}

abbrev pub decreases-loop-to : goal.decreases-loop-to
decreases-loop-to l = size l.left
