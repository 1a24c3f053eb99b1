use Rattle.std.proofs.Common.{ap, ◌∙◌, ◌&&◌, ◌||◌, not}
use Rattle.square_set.specs.Members.{has}
use Rattle.rules_model.specs.Repeats.{repeat_of}
use Rattle.legality.proofs.ShiftLaws.{told_chosen}
use Rattle.legality.proofs.move_filter.MoveFilter.told_by.Goals as goal

pub returns-clause-chosen : goal.returns-clause-chosen
returns-clause-chosen c =
    let move_filter = c.args.self.now in
    told_chosen move_filter.pin_info.tables.now (repeat_of move_filter.pin_info.p.now) move_filter.gen_type c.args.shift c.args.targets c.wanted-split.result.wanted c.wanted-split.result.untold
    c.lets_shift-chosen.result c.bars_shift-barred.result c.minus-unwanted.result c.or-2.result
    c.requires.targets c.requires.starts c.wanted-split.ensures.within c.wanted-split.ensures.wanted c.wanted-split.ensures.others
    c.lets_shift-chosen.ensures.within c.bars_shift-barred.ensures.within c.lets_shift-chosen.ensures.sane c.bars_shift-barred.ensures.sane
    (λ s. c.minus-unwanted.ensures s ∙ ap (λ b. b && not (has c.wanted-split.result.untold s)) (c.minus.ensures s))
    (λ s. c.or-2.ensures s ∙ ap (λ b. b || has c.minus-unwanted.result s) (c.or.ensures s))
