use Rattle.evaluation.proofs.PutLaws.{IsHandPart}
use Rattle.evaluation.proofs.piece_values.PieceValues.hand.Given as goal

abbrev pub invariant-loop-k : goal.invariant-loop-k
invariant-loop-k l = IsHandPart l.self l.p.hands l.side l.k l.worth
