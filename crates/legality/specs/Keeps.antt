-- What the keeper of the chosen moves has kept.
use Rattle.std.specs.Prelude.{List}
use Rattle.rules_model.specs.declared.moves.Move.{Move}
use Rattle.legality.specs.declared.list_sink.ListSink.{ListSink}
use Rattle.legality.specs.Choices.{chosen_by}
use Rattle.legality.specs.Sinks.{Kept}

-- it took these moves, and put those that are chosen at the end of its list
abbrev pub Keeps : ListSink → List Move → ListSink → Type 0
Keeps = Kept (λ keeper. keeper.move_filter) (λ keeper. keeper.list) chosen_by
