use Rattle.std.proofs.Common.{◌∙◌, ap, sym}
use Rattle.variant_ini.specs.OptionValue.{first_named}
use Rattle.variant_rules.specs.View.{found_view}
use Rattle.one_shots.proofs.RulesLemmas.{place_within, some_place, told_at}
use Rattle.one_shots.proofs.rules_text.rules_in.Goals as goal

pub write_rules-requires : goal.write_rules-requires
write_rules-requires c =
    place_within c.args.sections.now c.args.name.now c.in-Rules.field-0.now c.in-Some.place c.variants_have_places.ensures.places
    (sym (ap found_view c.in-Rules.is) ∙ c.requires)
    (ap (first_named c.args.sections.now) (sym c.as_bytes.ensures.value) ∙ sym c.place_of.ensures ∙ c.in-Some.is)

pub unreachable-requires : goal.unreachable-requires
unreachable-requires c =
    some_place c.args.sections.now c.args.name.now c.in-Rules.field-0.now c.variants_have_places.ensures.places
    (sym (ap found_view c.in-Rules.is) ∙ c.requires)
    (ap (first_named c.args.sections.now) (sym c.as_bytes.ensures.value) ∙ sym c.place_of.ensures ∙ c.in-None.is)

pub returns-in_ok-write_rules-in-Some-clause-answers : goal.returns-in_ok-write_rules-in-Some-clause-answers
returns-in_ok-write_rules-in-Some-clause-answers c =
    told_at c.args.sections.now c.args.name.now (found_view c.args.variant) c.in-Rules.field-0.now
    (first_named c.args.sections.now c.args.name.now) c.in-Some.place _ (ap found_view c.in-Rules.is)
    (ap (first_named c.args.sections.now) (sym c.as_bytes.ensures.value) ∙ sym c.place_of.ensures ∙ c.in-Some.is)
    c.in_ok-write_rules-in-Some.ensures
