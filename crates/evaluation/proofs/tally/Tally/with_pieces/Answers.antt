use Rattle.rules_model.specs.Repeats.{repeat_of}
use Rattle.evaluation.proofs.MoveLaws.{is_dropped}
use Rattle.evaluation.proofs.tally.Tally.with_pieces.Goals as goal

pub returns-in-Drop : goal.returns-in-Drop
returns-in-Drop c =
    rw c.in-Drop.is
    (is_dropped c.args.rules.now (repeat_of c.args.p.now) c.prove_position_sizes.ensures.cells _ _ _ _
    (rw (c.requires.values, c.cell_at-before.ensures, c.fresh.ensures) at c.put.ensures))
