use Rattle.std.proofs.Common.{◌≡◌, length, sym, subst}
use Rattle.std.specs.Bool.{OnTrue}
use Rattle.rules_model.specs.declared.board.Position.{Position}
use Rattle.rules_model.specs.declared.moves.Move.{Move}
use Rattle.rules_model.specs.Moves.{IsFitMove}
use Rattle.legality.proofs.GoLaws.{on_true}
use Rattle.check_moves.specs.Flights.{LeavesStep}
use Rattle.check_moves.proofs.FlightLaws.{drop-leaves}
use Rattle.check_moves.proofs.TakeLaws.{drop-is-taken}
use Rattle.check_moves.proofs.flights.leaves_step.Goals as goal

pub returns-then-to-flight : goal.returns-then-to-flight
returns-then-to-flight c =
    let s = c.args.board.now in
    let flight = c.args.flight.now in
    let size = subst (λ (x : Position). length x.cells ≡ 120) c.position.ensures c.prove_position_sizes.ensures.cells in
    let fit = subst (λ (x : Move). IsFitMove x) c.in-Drop.is c.requires.move_fits in
    subst (λ (x : Move). OnTrue c.may_take.result (LeavesStep s flight x)) (sym c.in-Drop.is)
    (on_true c.may_take.result c.may_take.ensures (drop-is-taken s flight c.requires.flight size c.in-Drop.kind c.in-Drop.to fit.1 c.if-to-flight.true))

pub returns-else-to-flight : goal.returns-else-to-flight
returns-else-to-flight c =
    let s = c.args.board.now in
    let flight = c.args.flight.now in
    let size = subst (λ (x : Position). length x.cells ≡ 120) c.position.ensures c.prove_position_sizes.ensures.cells in
    let fit = subst (λ (x : Move). IsFitMove x) c.in-Drop.is c.requires.move_fits in
    subst (λ (x : Move). OnTrue c.stays_open.result (LeavesStep s flight x)) (sym c.in-Drop.is)
    (on_true c.stays_open.result c.stays_open.ensures (drop-leaves s flight c.requires.flight size c.in-Drop.kind c.in-Drop.to fit.1))
