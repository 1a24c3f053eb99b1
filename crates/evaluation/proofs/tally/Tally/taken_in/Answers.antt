use Rattle.std.proofs.Common.{◌∙◌}
use Rattle.evaluation.proofs.HandLaws.{takes_in}
use Rattle.evaluation.proofs.tally.Tally.taken_in.Goals as goal

pub returns-then-kind-lt-KINDS : goal.returns-then-kind-lt-KINDS
returns-then-kind-lt-KINDS c =
    takes_in _ _ _ _ _ _ c.prove_few.ensures c.if-kind-lt-KINDS.true (c.from.ensures ∙ c.kind.ensures.is) c.more.ensures
