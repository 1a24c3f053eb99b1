use Rattle.std.proofs.Common.{◌∙◌}
use Rattle.legality.proofs.NoMoveLaws.{late_end_is}
use Rattle.legality.proofs.queries.end_where.Goals as goal

pub returns-in-Ongoing : goal.returns-in-Ongoing
returns-in-Ongoing c = c.no_move_end.ensures ∙ late_end_is _ _ c.in-Ongoing.ensures _ c.requires.any
