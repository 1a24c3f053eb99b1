use Rattle.std.proofs.Common.{sym, ap, ◌∙◌}
use Rattle.std.specs.List.{list_all}
use Rattle.attack_tables.specs.Goals.{has_both}
use Rattle.attack_tables.proofs.AlikeLaws.{alike, known}
use Rattle.attack_tables.proofs.alike.is_alike.Goals as goal

pub returns-else-names : goal.returns-else-names
returns-else-names c =
    known c.have_both.result (λ e.
    alike c.args.rules.now c.args.kind (sym c.names.ensures ∙ c.if-names.false)
    (ap (list_all has_both) (sym c.terms_of.ensures) ∙ sym c.have_both.ensures ∙ e))
