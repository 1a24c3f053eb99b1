use Rattle.std.proofs.Common.{Some, None, sym, ◌∙◌, arith}
use Rattle.variant_ini.proofs.NameLaws.{none_above, first_is_above, first_is_not_above}
use Rattle.variant_rules.proofs.loading.first_named.Goals as goal

pub returns-in_err-first : goal.returns-in_err-first
returns-in_err-first c =
    c.from_residual.ensures ∙ none_above c.args.place c.args.sections.now c.args.name.now (sym c.in_err-first.ensures)

pub returns-then-first-place : goal.returns-then-first-place
returns-then-first-place c =
    first_is_above c.args.place c.args.sections.now c.args.name.now c.in_ok-first.first (sym c.in_ok-first.ensures) (omega (arith, c.if-first-place.true))

pub returns-else-first-place : goal.returns-else-first-place
returns-else-first-place c =
    first_is_not_above c.args.place c.args.sections.now c.args.name.now c.in_ok-first.first (sym c.in_ok-first.ensures) (omega (arith, c.if-first-place.false))
