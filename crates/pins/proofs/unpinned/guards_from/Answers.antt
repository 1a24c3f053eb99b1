use Rattle.std.proofs.Common.{sym, ◌∙◌}
use Rattle.std.proofs.lemmas.Bool.{and_right}
use Rattle.rules_model.specs.Sides.{same_side}
use Rattle.move_tables.specs.declared.mode.Mode.TheVariants.{Take}
use Rattle.move_tables.specs.Reached.{reaches_as}
use Rattle.attack_tables.proofs.MaskLaws.{from_man, from_none}
use Rattle.pins.proofs.unpinned.guards_from.Goals as goal

pub returns-in-None : goal.returns-in-None
returns-in-None c = λ leave to moved board l out gone is same. from_none c.args.tables.now board c.args.by c.args.king.0 c.args.from (same ∙ sym c.cell_on.ensures ∙ c.in-None.is)

pub returns-in-Some : goal.returns-in-Some
returns-in-Some c = λ leave to moved board l out gone is same.
    from_man c.args.tables.now board c.args.by c.args.king.0 c.args.from c.in-Some.cell (same ∙ sym c.cell_on.ensures ∙ c.in-Some.is)
    ∙ and_right (same_side c.in-Some.cell.side c.args.by) (reaches_as c.args.tables.now board c.args.by c.in-Some.cell.kind (record { 0 = c.args.from }) Take c.args.king.0) (c.guards_from_kind.ensures leave to moved board l out gone is)
