use Rattle.board_sets.proofs.WriteLaws.{all_end, all_start, all_step}
use Rattle.board_sets.proofs.sets.BoardSets.after.Goals as goal

pub loop-at-init : goal.loop-at-init
loop-at-init c = λ before are agree. all_start _ _ _ before _ _ _ are agree c.minus-sets.ensures

pub loop-at-preserved : goal.loop-at-preserved
loop-at-preserved c =
    λ before are agree.
    all_step _ _ _ _ _ _ _ _ c.in-Some.ensures.some.member c.in-Some.ensures.rest (c.loop-at.invariant before are agree) (rw c.cell_at.ensures at c.add.ensures)

pub returns : goal.returns
returns c = λ before are agree. all_end _ _ _ _ _ c.in_default.ensures.none (c.loop-at.invariant before are agree)
