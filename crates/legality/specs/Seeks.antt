-- What the seeker of a chosen move has seen.
use Rattle.std.specs.Prelude.{List}
use Rattle.rules_model.specs.declared.moves.Move.{Move}
use Rattle.legality.specs.declared.any_sink.AnySink.{AnySink}
use Rattle.legality.specs.Choices.{chosen_by}
use Rattle.legality.specs.Sinks.{NonePassed, SomePassed}

-- it took these moves, and none of them is chosen
abbrev pub SeesNone : AnySink → List Move → AnySink → Type 0
SeesNone = NonePassed (λ seeker. chosen_by seeker.move_filter)

-- it took these, and one of them is chosen
abbrev pub SeesOne : AnySink → List Move → AnySink → Type 0
SeesOne = SomePassed (λ seeker. chosen_by seeker.move_filter)
