use Rattle.std.proofs.Common.{ap, sym, ◌∙◌}
use Rattle.move_tables.specs.declared.mode.Mode.TheVariants.{Take}
use Rattle.move_tables.specs.Reached.{piece_reaches}
use Rattle.pins.proofs.DangerLaws.{reached_once}
use Rattle.pins.proofs.danger.reach_from.Goals as goal

pub returns-in-Some : goal.returns-in-Some
returns-in-Some c = λ to entered board is on.
    let piece = c.in-Some.piece in
    reached_once c.args.left entered to board is on c.args.tables.now c.rules-rules.ensures.fit piece.side piece.kind (record { 0 = c.args.from }) c.reach_of.result c.reach_of.ensures
    ∙ ap (piece_reaches c.args.tables.now board (record { 0 = c.args.from }) Take to) (sym c.in-Some.is ∙ c.cell_on.ensures)
