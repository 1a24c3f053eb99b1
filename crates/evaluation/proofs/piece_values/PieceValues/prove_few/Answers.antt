use Rattle.evaluation.proofs.WorthLaws.{prove_few}
use Rattle.evaluation.proofs.piece_values.PieceValues.prove_few.Goals as goal

pub returns : goal.returns
returns c = rw (← c.self.view_is) (prove_few _ _ _ _ c.self.invariant)
