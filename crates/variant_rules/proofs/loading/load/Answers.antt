use Rattle.std.proofs.Common.{◌≡◌, ◌++◌, [], ◌∷◌, sym, ap, ◌∙◌}
use Rattle.variant_ini.specs.Section.{section_at}
use Rattle.variant_model.specs.Entry as section
use Rattle.variant_rules.specs.Entries.{entries_before, named_at}
use Rattle.variant_rules.proofs.EntryLemmas.{none_before, one_more}
use Rattle.variant_rules.proofs.PlayableLaws.{entry_playable}
use Rattle.variant_rules.proofs.loading.load.Goals as goal

pub loop-place-init : goal.loop-place-init
loop-place-init c = c.in_ok-made.ensures.items ∙ sym (none_before c.args.sections.now)

pub new-requires-in-loop-place : goal.new-requires-in-loop-place
new-requires-in-loop-place c = entry_playable c.in_ok-lettered.lettered c.loop-place.place _ c.in_ok-entry.ensures

pub loop-place-preserved : goal.loop-place-preserved
loop-place-preserved c =
    let named : c.in_ok-new.field-0 ≡ named_at c.args.sections.now c.loop-place.place =
    c.in_ok-new.ensures
    ∙ (λ i. record { name = c.name.ensures i; entry = c.in_ok-entry.ensures i })
    ∙ ap (λ sections. record { name = (section_at c.args.sections.now c.loop-place.place).name; entry = section.entry sections c.loop-place.place }) c.in_ok-lettered.ensures in
    c.in_ok-push.ensures.items
    ∙ ap (λ made. made ++ c.in_ok-new.field-0 ∷ []) c.loop-place.invariant
    ∙ ap (λ n. entries_before c.args.sections.now c.loop-place.place ++ n ∷ []) named
    ∙ sym (one_more c.args.sections.now c.loop-place.place)
