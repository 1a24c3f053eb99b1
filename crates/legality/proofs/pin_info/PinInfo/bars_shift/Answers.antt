use Rattle.std.proofs.Common.{ap, ◌∙◌, ◌&&◌}
use Rattle.square_set.specs.Members.{has}
use Rattle.legality.proofs.ShiftLaws.{may_not_go_by}
use Rattle.legality.proofs.pin_info.PinInfo.bars_shift.Goals as goal

pub returns-clause-sane : goal.returns-clause-sane
returns-clause-sane c =
    may_not_go_by _ _ c.args.shift _ _ c.args.targets c.shifted-led.result c.and-2.result c.args.self.now.go_without_evading c.shifted-led.ensures c.requires.starts
    (λ t. c.and-2.ensures t ∙ ap (λ b. b && has c.shifted-led.result t) (c.and.ensures t))
