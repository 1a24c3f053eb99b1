use Rattle.std.proofs.Common.{true}
use Rattle.std.proofs.lemmas.Bool.{OnTrue_at, OnTrue_from}
use Rattle.mate_settle.proofs.last_moves.is_met_again.Goals as goal

pub returns-then-is_met-clause-met : goal.returns-then-is_met-clause-met
returns-then-is_met-clause-met c = OnTrue_from true _ (λ told. OnTrue_at c.if-is_met.true c.is_met.ensures)
