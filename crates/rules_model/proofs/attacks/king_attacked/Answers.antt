use Rattle.std.proofs.Common.{sym, ◌∙◌}
use Rattle.foundation.proofs.CountLemmas.{any_below-true}
use Rattle.rules_model.specs.Attacks.{king_attacked}
use Rattle.rules_model.proofs.attacks.king_attacked.Goals as goal

pub returns-then-king_attacked_at : goal.returns-then-king_attacked_at
unfolding king_attacked
returns-then-king_attacked_at c =
    sym (any_below-true _ _ c.loop-at.at c.loop-at-test.true (sym c.king_attacked_at.ensures ∙ c.if-king_attacked_at.true))
