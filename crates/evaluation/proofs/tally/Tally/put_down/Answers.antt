use Rattle.std.proofs.Common.{◌∙◌}
use Rattle.evaluation.proofs.HandLaws.{puts_down}
use Rattle.evaluation.proofs.tally.Tally.put_down.Goals as goal

pub returns-then-held : goal.returns-then-held
returns-then-held c = puts_down _ _ _ _ _ _ _ c.if-held.true (c.from.ensures ∙ c.kind.ensures.is) c.less.ensures
