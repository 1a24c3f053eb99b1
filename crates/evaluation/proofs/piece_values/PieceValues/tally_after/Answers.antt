use Rattle.evaluation.proofs.MoveLaws.{moved}
use Rattle.evaluation.proofs.piece_values.PieceValues.tally_after.Goals as goal

pub returns : goal.returns
returns c =
    moved c.args.rules.now c.args.p.now c.args.m.now _ _ _ c.requires.sound c.requires.tally c.with_pieces.ensures c.with_hands.ensures
