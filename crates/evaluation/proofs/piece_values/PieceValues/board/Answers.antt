use Rattle.evaluation.proofs.PutLaws.{board_more, board_none, board_whole}
use Rattle.evaluation.proofs.piece_values.PieceValues.board.Goals as goal

pub loop-s-init : goal.loop-s-init
loop-s-init c = board_none c.args.self.now c.args.p.now.cells

pub loop-s-preserved : goal.loop-s-preserved
loop-s-preserved c =
    board_more c.args.self.now c.args.p.now.cells _ _ _ c.prove_few.ensures c.loop-s-test.true c.loop-s.invariant
    (rw c.cell_at.ensures at c.with-tally.ensures)

pub returns-clause-is : goal.returns-clause-is
returns-clause-is c = board_whole c.args.self.now c.args.p.now.cells _ _ c.loop-s.auto.s-end c.loop-s-test.false c.loop-s.invariant

pub returns-clause-few : goal.returns-clause-few
returns-clause-few c = c.prove_few.ensures
