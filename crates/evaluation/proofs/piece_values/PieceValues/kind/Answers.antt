use Rattle.std.proofs.Common.{sym}
use Rattle.evaluation.proofs.WorthLaws.{kind_beyond}
use Rattle.evaluation.proofs.piece_values.PieceValues.kind.Goals as goal

pub returns-else-kind-lt-KINDS-clause-is : goal.returns-else-kind-lt-KINDS-clause-is
returns-else-kind-lt-KINDS-clause-is c =
    rw (← c.self.view_is) (sym (kind_beyond _ _ c.self.invariant.fit c.if-kind-lt-KINDS.false))
