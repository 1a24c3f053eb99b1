use Rattle.std.proofs.Common.{ap, ◌∙◌}
use Rattle.variant_model.specs.Entry as section
use Rattle.variant_rules.proofs.EntryLemmas.{by_header}
use Rattle.variant_rules.proofs.loading.entry_of.Goals as goal

pub returns-in-Some : goal.returns-in-Some
returns-in-Some c =
    by_header c.args.sections.now c.args.place c.in-Some.fault
    (c.in-Some.ensures ∙ ap (λ sections. section.header_fault sections c.args.place (section.is_refused sections)) c.sections.ensures)
