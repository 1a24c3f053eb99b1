use Rattle.std.proofs.Common.{ap, arith, not, sym, ◌∙◌}
use Rattle.foundation.proofs.CountLemmas.{any_below-true}
use Rattle.special_moves.proofs.WayLemmas.{none-before, none-after, way-within}
use Rattle.special_moves.proofs.way.is_clear.Goals as goal

pub loop-at-init : goal.loop-at-init
loop-at-init c = rw c.lowest-at.ensures (none-before _ _ _ (way-within _ _))

pub returns-then-is_in_the_way : goal.returns-then-is_in_the_way
returns-then-is_in_the_way c =
    sym (ap not (any_below-true _ 120 c.loop-at.at (omega arith) (sym c.is_in_the_way.ensures ∙ c.if-is_in_the_way.true)))

pub returns : goal.returns
returns c = sym (ap not (none-after _ _ _ c.loop-at.at 120 (way-within _ _) (omega arith) c.loop-at.invariant))
