use Rattle.piece_moves.proofs.goal.reaches_to.Goals as goal

pub reaches_square-requires : goal.reaches_square-requires
reaches_square-requires c = c.occupied.ensures _ _ _ c.requires
