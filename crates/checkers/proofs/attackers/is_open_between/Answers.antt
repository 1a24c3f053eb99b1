use Rattle.std.proofs.Common.{ap, not, sym, ◌∙◌}
use Rattle.foundation.proofs.CountLemmas.{any_below-true}
use Rattle.checkers.proofs.attackers.is_open_between.Goals as goal

pub returns-then-stands_between : goal.returns-then-stands_between
returns-then-stands_between c =
    sym (ap not (any_below-true _ _ c.loop-at.at c.loop-at-test.true (sym c.stands_between.ensures ∙ c.if-stands_between.true)))
