use Rattle.std.proofs.Common.{sym, ◌∙◌}
use Rattle.foundation.proofs.CountLemmas.{any_below-true}
use Rattle.rules_model.proofs.attacks.is_attacked_by_piece.Goals as goal

pub returns-then-attacks_from : goal.returns-then-attacks_from
returns-then-attacks_from c =
    sym (any_below-true _ _ c.loop-from.from c.loop-from-test.true (sym c.attacks_from.ensures ∙ c.if-attacks_from.true))
