use Rattle.std.proofs.Common.{◌≡◌, Some, true, ap, sym, ◌∙◌}
use Rattle.std.proofs.lemmas.Option.{IfSome_then}
use Rattle.std.proofs.Math.Bool.{and-true}
use Rattle.rules_model.specs.Attacks.{is_own}
use Rattle.rules_model.specs.Sides.{same_side}
use Rattle.rules_model.specs.Squares.{cell_at}
use Rattle.attack_tables.proofs.MaskLaws.{from_man}
use Rattle.pins.proofs.evasion.attack_way.Goals as goal

pub returns : goal.returns
returns c =
    let there : cell_at c.args.cells.now c.args.from ≡ Some c.in_ok-cell.cell = sym c.cell_on.ensures ∙ c.in_ok-cell.was in
    let own : same_side c.in_ok-cell.cell.side c.args.by ≡ true =
    sym (and-true (same_side c.in_ok-cell.cell.side c.args.by)) ∙ sym (ap (is_own c.args.by (λ kind. true)) there) ∙ c.requires.man in
    IfSome_then c.kind_way.result c.kind_way.ensures (λ way reaches now board is agree same.
    from_man c.args.tables.now board c.args.by c.args.king.0 c.args.from c.in_ok-cell.cell (same ∙ there) ∙ rw own (reaches now board is agree))
