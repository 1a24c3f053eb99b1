-- What the counter of the chosen moves has counted.
use Rattle.std.specs.Prelude.{◌-◌, ◌^◌}
use Rattle.rules_model.specs.declared.moves.Move.{Move}
use Rattle.piece_moves.specs.Taking.{TakesAll, TakesSome}
use Rattle.legality.specs.declared.count_sink.CountSink.{CountSink}
use Rattle.legality.specs.Choices.{chosen_by}
use Rattle.legality.specs.Sinks.{Counted, Never}

-- it took exactly the moves that meet P, each once, and counted those that are chosen
abbrev pub CountsAll : (Move → Type 0) → CountSink → CountSink → Type 0
CountsAll = TakesAll (Counted (λ counter. counter.move_filter) (λ counter. counter.count) chosen_by (2 ^ 128 - 1))

-- holds never: this sink is never full
abbrev pub IsFull : (Move → Type 0) → CountSink → CountSink → Type 0
IsFull = TakesSome Never
