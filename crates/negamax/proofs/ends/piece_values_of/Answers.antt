use Rattle.std.proofs.Common.{subst, sym}
use Rattle.rules_model.specs.Fit.{IsFit}
use Rattle.negamax.proofs.ends.piece_values_of.Goals as goal

pub of-requires : goal.of-requires
of-requires c = subst IsFit (sym c.rules.ensures) c.prove_ready.ensures.fit
