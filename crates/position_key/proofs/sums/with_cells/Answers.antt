use Rattle.std.proofs.Common.{rules, sym}
use Rattle.position_key.proofs.ExchangeLemmas.{between-less, same-exchanged, sum-of-all, sum-of-none}
use Rattle.position_key.proofs.sums.with_cells.Goals as goal

pub loop-at-init : goal.loop-at-init
loop-at-init c = same-exchanged _ _ _ (sym (sum-of-all _ _ _ c.requires))

pub loop-at-preserved : goal.loop-at-preserved
loop-at-preserved c =
    let step = rw (c.cell_word-was.ensures, c.cell_at.ensures, c.cell_word-is.ensures, c.cell_at-in-Some.ensures) at c.exchanged-key.ensures in
    between-less _ _ _ _ _ c.in-Some.ensures.some.member c.in-Some.ensures.rest _ _ _ (search rules) (search rules) c.loop-at.invariant step

pub returns : goal.returns
returns c = rw (sum-of-none c.loop-at.left c.args.before.now c.args.next.now c.in_default.ensures.none) at c.loop-at.invariant
