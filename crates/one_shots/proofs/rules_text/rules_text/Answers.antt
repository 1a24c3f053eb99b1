use Rattle.variant_rules.specs.View.{found_view}
use Rattle.one_shots.proofs.RulesLemmas.{rules_says}
use Rattle.one_shots.proofs.rules_text.rules_text.Goals as goal

pub rules_in-requires : goal.rules_in-requires
rules_in-requires c = rw (c.as_bytes.ensures.value, c.in_ok-variants.ensures) at c.find.ensures.is

pub returns-clause-answers : goal.returns-clause-answers
returns-clause-answers c =
    rules_says c.args.sections.now c.args.name.now c.rules_in.result (found_view c.find.result)
    (rw (c.as_bytes.ensures.value, c.in_ok-variants.ensures) at c.find.ensures.is) c.rules_in.ensures.answers
