use Rattle.std.proofs.Common.{◌≡◌, length, Some, None, is_err, ap, ◌∙◌, arith}
use Rattle.variant_model.specs.Entry as section
use Rattle.variant_model.specs.declared.fault.SectionFault.TheVariants.{RefusedParent}
use Rattle.variant_rules.specs.Entries.{entry_at}
use Rattle.variant_rules.proofs.EntryLemmas.{length_before, made_above, parent_named}
use Rattle.variant_rules.proofs.loading.parent_fault.Goals as goal

pub is_refused-requires : goal.is_refused-requires
is_refused-requires c =
    let most : length c.args.above.now ≡ c.args.place = ap length c.requires.above ∙ length_before c.args.sections.now c.args.place in
    omega (arith, c.in-Some.ensures.above, most)

pub returns-in-None : goal.returns-in-None
returns-in-None c =
    parent_named c.args.sections.now c.args.place (section.is_refused c.args.sections.now) c.in_ok-parent.field-0.now None c.in_ok-parent.ensures c.in-None.ensures.is

pub returns-in-Some : goal.returns-in-Some
returns-in-Some c =
    c.fault_where.ensures
    ∙ ap (λ refused. section.fault_where refused RefusedParent)
    (c.is_refused.ensures
    ∙ ap (λ above. is_err (entry_at above c.in-Some.parent)) c.requires.above
    ∙ ap is_err (made_above c.args.sections.now c.args.place c.in-Some.parent c.in-Some.ensures.above))
    ∙ parent_named c.args.sections.now c.args.place (section.is_refused c.args.sections.now) c.in_ok-parent.field-0.now (Some c.in-Some.parent) c.in_ok-parent.ensures c.in-Some.ensures.is
