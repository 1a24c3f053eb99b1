use Rattle.std.proofs.Common.{sym, ap, ◌∙◌}
use Rattle.std.proofs.lemmas.Bool.{OnTrue_at}
use Rattle.rules_model.specs.declared.rules.Rules.{Rules}
use Rattle.check_moves.proofs.listing.step_to_close.Goals as goal

pub returns-clause-step : goal.returns-clause-step
returns-clause-step c = record {
  flight = c.in_ok-flight.ensures.found;
  leap = OnTrue_at c.if-not-is_leap.false c.is_leap.ensures;
  uncounted = ap (λ (x : Rules). x.check_counting) (sym c.rules.ensures) ∙ c.if-rules.false;
  sets = c.prove_moved.ensures;
}
