use Rattle.std.proofs.Common.{sym, ◌∙◌}
use Rattle.foundation.proofs.CountLemmas.{any_below-true}
use Rattle.special_moves.proofs.drops.stands_on_file.Goals as goal

pub returns-then-stands_on : goal.returns-then-stands_on
returns-then-stands_on c =
    sym (any_below-true _ _ c.loop-rank.rank c.loop-rank-test.true (sym c.stands_on.ensures ∙ c.if-stands_on.true))
