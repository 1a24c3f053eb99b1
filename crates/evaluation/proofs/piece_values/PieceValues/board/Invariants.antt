use Rattle.evaluation.proofs.PutLaws.{IsBoardPart}
use Rattle.evaluation.proofs.piece_values.PieceValues.board.Given as goal

abbrev pub invariant-loop-s : goal.invariant-loop-s
invariant-loop-s l = IsBoardPart l.self l.p.cells l.s l.tally
