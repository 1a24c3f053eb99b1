use Rattle.std.proofs.Common.{sym, ◌∙◌}
use Rattle.foundation.proofs.CountLemmas.{any_below-true}
use Rattle.rules_model.proofs.attacks.any_king_faces.Goals as goal

pub returns-then-king_faces : goal.returns-then-king_faces
returns-then-king_faces c =
    sym (any_below-true _ _ c.loop-from.from c.loop-from-test.true (sym c.king_faces.ensures ∙ c.if-king_faces.true))
