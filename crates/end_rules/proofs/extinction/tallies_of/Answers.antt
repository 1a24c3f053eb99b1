use Rattle.std.proofs.Common.{subst, sym}
use Rattle.end_rules.proofs.TallyLaws.{IsCounted, all_counted, none_counted, not_empty, one_counted}
use Rattle.end_rules.proofs.extinction.tallies_of.Goals as goal

pub loop-at-init : goal.loop-at-init
loop-at-init c = none_counted _ _

pub loop-at-preserved-in-Some-cells : goal.loop-at-preserved-in-Some-cells
loop-at-preserved-in-Some-cells c =
    subst (IsCounted _ _ _) (sym c.count.ensures)
    (one_counted _ _ _ _ c.requires c.loop-at.invariant c.in-Some.at _ c.in-Some-cells.piece c.in-Some.ensures.some c.in-Some.ensures.rest c.in-Some-cells.is)

pub loop-at-preserved : goal.loop-at-preserved
loop-at-preserved c =
    absurd (not_empty c.args.occupied c.args.cells.now c.in-Some.at c.requires (c.loop-at.invariant.within c.in-Some.at c.in-Some.ensures.some.member) c.in_default-cells.is)

pub returns : goal.returns
returns c = all_counted _ _ _ _ c.requires c.loop-at.invariant c.in_default.ensures.none
