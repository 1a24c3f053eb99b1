use Rattle.std.proofs.Common.{ap, ◌∙◌, ◌&&◌, not}
use Rattle.square_set.specs.Members.{has}
use Rattle.legality.proofs.ShiftLaws.{of_first, may_go_by}
use Rattle.legality.proofs.pin_info.PinInfo.lets_shift.Goals as goal

pub returns-clause-within : goal.returns-clause-within
returns-clause-within c = of_first c.args.targets c.shifted-led.result c.args.self.now.barred c.and.result c.minus.result c.and.ensures c.minus.ensures

pub returns-clause-sane : goal.returns-clause-sane
returns-clause-sane c =
    may_go_by _ _ c.args.shift _ _ c.args.targets c.shifted-led.result c.minus.result c.args.self.now.go_at_once c.shifted-led.ensures c.requires.starts
    (λ t. c.minus.ensures t ∙ ap (λ b. b && not (has c.args.self.now.barred t)) (c.and.ensures t))
