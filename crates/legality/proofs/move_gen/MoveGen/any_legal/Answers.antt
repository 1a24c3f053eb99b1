use Rattle.std.proofs.Common.{sym, ◌∙◌}
use Rattle.legality.proofs.ListLaws.{ended_stuck, goes_not_stuck}
use Rattle.legality.proofs.move_gen.MoveGen.any_legal.Goals as goal

pub returns-then-goes_on : goal.returns-then-goes_on
returns-then-goes_on c = c.can_go.ensures ∙ goes_not_stuck _ _ (sym c.if-goes_on.ensures)

pub returns-else-goes_on : goal.returns-else-goes_on
returns-else-goes_on c = c.if-goes_on.false ∙ ended_stuck _ _ (sym c.if-goes_on.ensures)
