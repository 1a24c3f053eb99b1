use Rattle.std.proofs.Common.{sym, ◌∙◌}
use Rattle.foundation.proofs.CountLemmas.{any_below-true}
use Rattle.rules_model.specs.Ends.{has_flag}
use Rattle.end_rules.proofs.flag.finds_flag.Goals as goal

pub returns-then-is_flag_at : goal.returns-then-is_flag_at
unfolding has_flag
returns-then-is_flag_at c =
    sym (any_below-true _ _ c.loop-at.at c.loop-at-test.true (sym c.is_flag_at.ensures ∙ c.if-is_flag_at.true))
