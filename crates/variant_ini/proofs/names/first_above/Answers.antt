use Rattle.std.proofs.Common.{◌≡◌, Some, None, List, sym, ap, ◌∙◌, arith}
use Rattle.std.specs.Option.{option_copied}
use Rattle.variant_ini.specs.OptionValue.{first_named}
use Rattle.variant_ini.proofs.NameLaws.{none_above, first_is_above, first_is_not_above}
use Rattle.variant_ini.proofs.names.first_above.Goals as goal

pub returns-in_err-first : goal.returns-in_err-first
returns-in_err-first c = λ sections finds.
    c.from_residual.ensures
    ∙ none_above c.args.place sections c.args.name.now
    (sym (finds c.args.name.now) ∙ sym c.get.ensures.value ∙ ap option_copied c.in_err-first.was)

pub returns-then-first-place : goal.returns-then-first-place
returns-then-first-place c = λ sections finds.
    first_is_above c.args.place sections c.args.name.now c.in_ok-first.field-0.now
    (sym (finds c.args.name.now) ∙ sym c.get.ensures.value ∙ ap option_copied c.in_ok-first.was)
    (omega (arith, c.if-first-place.true))

pub returns-else-first-place : goal.returns-else-first-place
returns-else-first-place c = λ sections finds.
    first_is_not_above c.args.place sections c.args.name.now c.in_ok-first.field-0.now
    (sym (finds c.args.name.now) ∙ sym c.get.ensures.value ∙ ap option_copied c.in_ok-first.was)
    (omega (arith, c.if-first-place.false))
