use Rattle.evaluation.specs.PieceValues.{AreSquareWorths}
use Rattle.evaluation.proofs.piece_values.square_worths.Given as goal

abbrev pub invariant-loop-s : goal.invariant-loop-s
invariant-loop-s l = AreSquareWorths l.rules l.squares l.s
