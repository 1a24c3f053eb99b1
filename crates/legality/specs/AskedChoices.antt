-- What is chosen and asked for.
use Rattle.std.specs.Prelude.{◌≡◌, Bool, ◌&&◌, List, ◌++◌}
use Rattle.std.specs.List.{filter}
use Rattle.rules_model.specs.declared.board.Repeat.{Repeat}
use Rattle.rules_model.specs.declared.moves.Move.{Move}
use Rattle.rules_model.specs.declared.rules.Rules.{Rules}
use Rattle.rules_model.specs.Repeats.{repeat_of}
use Rattle.piece_moves.specs.Taking.{TakesAll}
use Rattle.legality.specs.declared.asked.Asked.{Asked}
use Rattle.legality.specs.declared.asked_sink.AskedSink.{AskedSink}
use Rattle.legality.specs.declared.move_filter.GenType.{GenType}
use Rattle.legality.specs.declared.move_filter.MoveFilter.{MoveFilter}
use Rattle.legality.specs.Asking.{is_asked}
use Rattle.legality.specs.Choices.{chosen_by}
use Rattle.legality.specs.Chosen.{FitCandidates, is_chosen}
use Rattle.legality.specs.Sinks.{Kept}

-- the filter, and what is asked for
pub record AskedFilter : Type 0 where
  pub move_filter : MoveFilter
  pub asked : Asked

abbrev pub filter_of : AskedSink → AskedFilter
filter_of sink = record { move_filter = sink.keeper.move_filter; asked = sink.asked.now }

-- the move is chosen by the filter, and asked for
abbrev pub asked_by : AskedFilter → Move → Bool
asked_by f m = chosen_by f.move_filter m && is_asked f.asked (repeat_of f.move_filter.pin_info.p.now) m

-- it took these moves, and put those that are chosen and asked for at the end of its list
abbrev pub KeepsAsked : AskedSink → List Move → AskedSink → Type 0
KeepsAsked = Kept filter_of (λ sink. sink.keeper.list) asked_by

-- the candidates of its position
abbrev pub FitCandidatesOf : AskedSink → Move → Type 0
FitCandidatesOf sink =
    FitCandidates sink.keeper.move_filter.pin_info.tables.now (repeat_of sink.keeper.move_filter.pin_info.p.now)

-- the candidates that are chosen and asked for were appended
abbrev pub AppendsAsked : Asked → Rules → Repeat → GenType → List Move → List Move → Type 0
AppendsAsked asked rules r gen_type =
    TakesAll (λ old ms new. new ≡ old ++ filter (λ m. is_chosen rules r gen_type m && is_asked asked r m) ms)
    (FitCandidates rules r)
