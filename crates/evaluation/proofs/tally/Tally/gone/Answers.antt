use Rattle.rules_model.specs.Repeats.{repeat_of}
use Rattle.evaluation.proofs.MoveLaws.{goes_plainly}
use Rattle.evaluation.proofs.tally.Tally.gone.Goals as goal

pub returns : goal.returns
returns c =
    goes_plainly c.args.rules.now (repeat_of c.args.p.now) c.prove_position_sizes.ensures.cells _ _ _ _ _ _ c.requires.apart c.requires.plain
    (rw (c.requires.values, c.cell_at-piece.ensures) at c.put-left.ensures)
    (rw (c.requires.values, c.cell_at-target.ensures, c.promote.ensures, c.cell_at-piece.ensures) at c.put.ensures)
