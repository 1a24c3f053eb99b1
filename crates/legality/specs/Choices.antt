-- What a filter of moves chooses.
use Rattle.std.specs.Prelude.{Bool, ◌&&◌}
use Rattle.rules_model.specs.declared.moves.Move.{Move}
use Rattle.rules_model.specs.Repeats.{repeat_of}
use Rattle.legality.specs.declared.move_filter.MoveFilter.{MoveFilter}
use Rattle.rules_model.specs.Legal.{is_sane}
use Rattle.legality.specs.Chosen.{AreUnwantedBut, AreWantedTo, is_chosen, is_wanted}
use Rattle.square_set.specs.declared.Set.{Set}

abbrev pub chosen_by : MoveFilter → Move → Bool
chosen_by move_filter m =
    is_chosen move_filter.pin_info.tables.now (repeat_of move_filter.pin_info.p.now) move_filter.gen_type m

-- the move is wanted
abbrev pub wanted_by : MoveFilter → Move → Bool
wanted_by move_filter m =
    is_wanted move_filter.pin_info.tables.now (repeat_of move_filter.pin_info.p.now) move_filter.gen_type m

-- the filter lets a fit move pass: it is wanted, and sane
abbrev pub suits : MoveFilter → Move → Bool
suits move_filter m =
    wanted_by move_filter m && is_sane move_filter.pin_info.tables.now (repeat_of move_filter.pin_info.p.now) m

-- the moves of pieces to the targets are wanted
abbrev pub AreWanted : MoveFilter → Set → Type 0
AreWanted move_filter =
    AreWantedTo move_filter.pin_info.tables.now (repeat_of move_filter.pin_info.p.now) move_filter.gen_type

-- those to the other targets are not
abbrev pub AreUnwanted : MoveFilter → Set → Set → Set → Type 0
AreUnwanted move_filter =
    AreUnwantedBut move_filter.pin_info.tables.now (repeat_of move_filter.pin_info.p.now) move_filter.gen_type
