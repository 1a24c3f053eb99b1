use Rattle.evaluation.specs.PieceValues.{AreKindWorths}
use Rattle.evaluation.proofs.piece_values.kind_worths.Given as goal

abbrev pub invariant-loop-k : goal.invariant-loop-k
invariant-loop-k l = AreKindWorths l.rules l.kinds l.k
