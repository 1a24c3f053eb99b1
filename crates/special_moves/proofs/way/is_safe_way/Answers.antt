use Rattle.std.proofs.Common.{ap, arith, not, sym, ◌∙◌}
use Rattle.foundation.proofs.CountLemmas.{any_below-next, any_below-true}
use Rattle.special_moves.proofs.WayLemmas.{king-within, none-after, none-before, passes}
use Rattle.special_moves.proofs.way.is_safe_way.Goals as goal

pub loop-at-init : goal.loop-at-init
loop-at-init c = rw c.min-at.ensures (none-before _ _ _ (king-within _ _ _ _))

pub returns-then-is_attacked : goal.returns-then-is_attacked
returns-then-is_attacked c =
    sym
    (ap not
    (any_below-true _ 120 c.loop-at.at (omega arith)
    (passes _ _ _ _ c.loop-at.at (omega arith) (omega arith) ∙ sym c.is_attacked.ensures ∙ c.if-is_attacked.true)))

pub loop-at-preserved : goal.loop-at-preserved
loop-at-preserved c =
    any_below-next _ _ c.loop-at.invariant
    (passes _ _ _ _ c.loop-at.at (omega arith) (omega arith) ∙ sym c.is_attacked.ensures ∙ c.if-is_attacked.false)

pub returns : goal.returns
returns c = sym (ap not (none-after _ _ _ c.loop-at.at 120 (king-within _ _ _ _) (omega arith) c.loop-at.invariant))
