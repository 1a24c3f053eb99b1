use Rattle.std.proofs.Common.{ap, ◌∙◌, ◌&&◌, not}
use Rattle.square_set.specs.Members.{has}
use Rattle.rules_model.specs.Repeats.{repeat_of}
use Rattle.legality.proofs.WantedLaws.{gen_type_unwanted, gen_type_wanted}
use Rattle.legality.proofs.move_filter.MoveFilter.wanted.Goals as goal

pub returns-clause-wanted : goal.returns-clause-wanted
returns-clause-wanted c =
    let move_filter = c.args.self.now in
    let sets = move_filter.pin_info.are_sets in
    gen_type_wanted move_filter.pin_info.tables.now (repeat_of move_filter.pin_info.p.now) move_filter.pin_info.sets.own move_filter.pin_info.sets.enemies c.barred_at_once-barred.result
    sets.own sets.enemies c.barred_at_once-barred.ensures move_filter.gen_type c.args.targets c.minus.result c.and.result c.requires.targets
    (λ s. c.minus.ensures s ∙ ap (λ b. b && not (has c.barred_at_once-barred.result s)) (c.of_targets-of_gen_type.ensures s))

pub returns-clause-others : goal.returns-clause-others
returns-clause-others c =
    let move_filter = c.args.self.now in
    let sets = move_filter.pin_info.are_sets in
    gen_type_unwanted move_filter.pin_info.tables.now (repeat_of move_filter.pin_info.p.now) move_filter.pin_info.sets.own move_filter.pin_info.sets.enemies c.barred_at_once-barred.result
    sets.own sets.enemies c.barred_at_once-barred.ensures move_filter.gen_type c.args.targets c.minus.result c.and.result c.requires.targets
    (λ s. c.minus.ensures s ∙ ap (λ b. b && not (has c.barred_at_once-barred.result s)) (c.of_targets-of_gen_type.ensures s)) c.and.ensures
