use Rattle.std.proofs.Common.{sym, ◌∙◌}
use Rattle.foundation.proofs.CountLemmas.{any_below-true}
use Rattle.end_rules.proofs.extinction.some_kind_dies_out.Goals as goal

pub returns-then-kind_dies_out : goal.returns-then-kind_dies_out
returns-then-kind_dies_out c =
    sym (any_below-true _ _ c.loop-kind.kind c.loop-kind-test.true (sym c.kind_dies_out.ensures ∙ c.if-kind_dies_out.true))
