use Rattle.std.proofs.Common.{sym, ◌∙◌}
use Rattle.rules_model.specs.Repeats.{repeat_of}
use Rattle.legality.proofs.DropLaws.{may_not_drop}
use Rattle.legality.proofs.pin_info.PinInfo.bars_drop.Goals as goal

pub returns-clause-sane : goal.returns-clause-sane
returns-clause-sane c =
    let now = c.args.self.now in
    may_not_drop now.tables.now (repeat_of now.p.now) c.args.kind now.non_evading.to_enter c.args.targets c.and.result
    (sym c.is_king.ensures ∙ c.if-is_king.false) now.drop_without_evading c.and.ensures
