use Rattle.std.proofs.Common.{refl}
use Rattle.rules_model.specs.Repeats.{repeat_of}
use Rattle.square_set.proofs.CoverLaws.{has-zero}
use Rattle.legality.proofs.GoLaws.{in_some}
use Rattle.legality.proofs.WantedLaws.{none_told, told_of_wanted}
use Rattle.legality.proofs.move_filter.MoveFilter.chosen_at_once.Goals as goal

pub returns-then-is_empty : goal.returns-then-is_empty
returns-then-is_empty c =
    let move_filter = c.args.self.now in
    none_told move_filter.pin_info.tables.now (repeat_of move_filter.pin_info.p.now) move_filter.gen_type c.args.targets c.wanted-split.result.wanted c.wanted-split.result.untold c.args.from c.args.gate (record { 0 = 0 })
    c.wanted-split.ensures.others c.if-not-is_empty.ensures.empty c.if-is_empty.ensures.empty (has-zero (record { 0 = 0 }) refl)

pub returns : goal.returns
returns c =
    let move_filter = c.args.self.now in
    in_some c.chosen_of.result c.chosen_of.ensures
    (λ those are. told_of_wanted move_filter.pin_info.tables.now (repeat_of move_filter.pin_info.p.now) move_filter.gen_type c.args.targets c.wanted-split.result.wanted c.wanted-split.result.untold c.args.from c.args.gate those
    c.wanted-split.ensures.others c.wanted-split.ensures.within c.if-not-is_empty.ensures.empty are)
