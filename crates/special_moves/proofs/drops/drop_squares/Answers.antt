use Rattle.rules_model.specs.Repeats.{repeat_of}
use Rattle.special_moves.proofs.DropLemmas.{empty_region}
use Rattle.special_moves.proofs.drops.drop_squares.Goals as goal

pub returns : goal.returns
returns c =
    empty_region c.args.tables.now (repeat_of c.args.p.now) c.drop_region.result c.occupied.result c.minus.result
    c.drop_region.ensures.is c.drop_region.ensures.on_board (c.occupied.ensures _ _ _ c.requires.sets) c.minus.ensures
