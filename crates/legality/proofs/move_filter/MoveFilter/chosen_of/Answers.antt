use Rattle.rules_model.specs.Repeats.{repeat_of}
use Rattle.legality.proofs.GoLaws.{in_some, sane_chosen}
use Rattle.legality.proofs.move_filter.MoveFilter.chosen_of.Goals as goal

pub returns-in-None : goal.returns-in-None
returns-in-None c =
    let move_filter = c.args.self.now in
    in_some c.lets_king.result c.lets_king.ensures
    (λ sane are. sane_chosen move_filter.pin_info.tables.now (repeat_of move_filter.pin_info.p.now) move_filter.gen_type c.args.from c.args.gate c.args.targets sane c.requires.wanted c.requires.from c.requires.targets c.in-None.is are)
