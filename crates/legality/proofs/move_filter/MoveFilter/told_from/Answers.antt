use Rattle.std.proofs.Common.{refl, ap, ◌∙◌, ◌&&◌, not}
use Rattle.rules_model.specs.Repeats.{repeat_of}
use Rattle.square_set.specs.Members.{has}
use Rattle.square_set.proofs.CoverLaws.{has-zero}
use Rattle.legality.proofs.WantedLaws.{unwanted_told}
use Rattle.legality.proofs.move_filter.MoveFilter.told_from.Goals as goal

pub returns-clause-chosen : goal.returns-clause-chosen
returns-clause-chosen c =
    let move_filter = c.args.self.now in
    unwanted_told move_filter.pin_info.tables.now (repeat_of move_filter.pin_info.p.now) move_filter.gen_type c.args.targets c.wanted-split.result.wanted c.wanted-split.result.untold c.args.from c.args.gate c.minus-2.result (record { 0 = 0 })
    c.wanted-split.ensures.others (λ s. c.minus-2.ensures s ∙ ap (λ b. b && not (has c.wanted-split.result.untold s)) (c.minus.ensures s)) (has-zero (record { 0 = 0 }) refl)
