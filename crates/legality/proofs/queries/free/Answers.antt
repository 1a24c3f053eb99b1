use Rattle.std.proofs.Common.{refl, subst, ◌∙◌}
use Rattle.rules_model.specs.declared.moves.Promo.TheVariants.{Stays}
use Rattle.rules_model.specs.declared.rules.Rules.{Rules}
use Rattle.rules_model.specs.Repeats.{repeat_of}
use Rattle.legality.specs.Moved.{GoFreely}
use Rattle.legality.proofs.queries.free.Goals as goal

pub returns-clause-safe : goal.returns-clause-safe
returns-clause-safe c from to l m h target no_passing =
    let Free : Rules → Type 0 = λ rules. GoFreely rules (repeat_of c.args.p.now) c.sets_of-sets.result.own c.free_squares.result.to_leave in
    let safe = subst Free c.requires.ready.tables c.free_squares.ensures.safe in
    safe from to Stays l m h (c.sets_of-sets.ensures.own to.0 ∙ target) refl no_passing
