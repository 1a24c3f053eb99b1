use Rattle.std.proofs.Common.{◌≡◌, ◌^◌, ◌-◌, ℕ, true}
use Rattle.square_set.specs.Members.{has, size}
use Rattle.piece_moves.specs.InTurn.{GoesTo, Outside, target_of}
use Rattle.piece_moves.specs.Taking.{TakesAll}
use Rattle.legality.specs.Choices.{chosen_by}
use Rattle.legality.specs.Sinks.{Counted}
use Rattle.legality.proofs.count_sink.CountSinkMoveSink.take_all.Given as goal

abbrev pub invariant-loop-to : goal.invariant-loop-to
invariant-loop-to l = record {
  within : (s : ℕ) → has l.left s ≡ true → has l.fn.targets s ≡ true;
  taken : TakesAll (Counted (λ counter. counter.move_filter) (λ counter. counter.count) chosen_by (2 ^ 128 - 1)) (Outside (GoesTo l.fn.from l.gate l.fn.targets) target_of l.left) l.initial.self l.self;
}

abbrev pub decreases-loop-to : goal.decreases-loop-to
decreases-loop-to l = size l.left
