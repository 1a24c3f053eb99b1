use Rattle.std.proofs.Common.{sym}
use Rattle.rules_model.specs.Repeats.{repeat_of}
use Rattle.legality.proofs.DropLaws.{drops_told, no_drop_told}
use Rattle.legality.proofs.move_filter.MoveFilter.told_drops.Goals as goal

pub returns-then-not-has_quiets-clause-chosen : goal.returns-then-not-has_quiets-clause-chosen
returns-then-not-has_quiets-clause-chosen c =
    let move_filter = c.args.self.now in
    no_drop_told move_filter.pin_info.tables.now (repeat_of move_filter.pin_info.p.now) move_filter.gen_type c.args.kind c.args.targets (sym c.if-not-has_quiets.ensures)

pub returns-clause-chosen : goal.returns-clause-chosen
returns-clause-chosen c =
    let move_filter = c.args.self.now in
    drops_told move_filter.pin_info.tables.now (repeat_of move_filter.pin_info.p.now) move_filter.gen_type c.args.kind c.args.targets c.lets_drop-chosen.result c.bars_drop-barred.result c.or.result
    (sym c.if-not-has_quiets.ensures) c.requires.kind c.requires.targets c.lets_drop-chosen.ensures.within c.bars_drop-barred.ensures.within c.lets_drop-chosen.ensures.sane c.bars_drop-barred.ensures.sane c.or.ensures
