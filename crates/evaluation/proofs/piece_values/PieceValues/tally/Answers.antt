use Rattle.evaluation.proofs.PutLaws.{sums_of}
use Rattle.evaluation.proofs.piece_values.PieceValues.tally.Goals as goal

pub returns : goal.returns
returns c =
    sums_of c.args.self.now c.args.p.now.cells c.args.p.now.hands _ _ _ _ _ c.board.ensures.few c.board.ensures.is
    c.hand-white.ensures.is c.hand-black.ensures.is c.hand-white.ensures.few c.more.ensures c.more-2.ensures
