use Rattle.std.proofs.Common.{◌∙◌}
use Rattle.move_tables.proofs.tables.MoveTables.reach_set.Goals as goal

pub returns : goal.returns
returns c = λ cells is t. c.reach.ensures t ∙ c.spot.ensures c.args.occupied cells is t
