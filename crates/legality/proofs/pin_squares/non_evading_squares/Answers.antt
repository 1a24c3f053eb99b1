use Rattle.rules_model.specs.Repeats.{repeat_of}
use Rattle.legality.proofs.NonEvadingLaws.{drop_without_evading, gate_without_evading, go_without_evading}
use Rattle.legality.proofs.pin_squares.non_evading_squares.Goals as goal

pub returns-clause-go : goal.returns-clause-go
returns-clause-go c =
    go_without_evading c.args.tables.now (repeat_of c.args.p.now) c.args.sets.now c.occupied-occupied.result c.requires.sets (c.occupied-occupied.ensures _ _ _ c.requires.sets) c.prove_position_sizes.ensures.cells
    c.evasions-evasions.result.leave c.evasions-evasions.result.enter c.args.barred c.evasions-evasions.ensures c.requires.barred _ _ _ c.minus-3.ensures c.minus-4.ensures
    _ _ c.minus.ensures c.minus-2.ensures

pub returns-clause-drop : goal.returns-clause-drop
returns-clause-drop c =
    drop_without_evading c.args.tables.now (repeat_of c.args.p.now) c.args.sets.now c.occupied-occupied.result c.requires.sets (c.occupied-occupied.ensures _ _ _ c.requires.sets) c.prove_position_sizes.ensures.cells
    c.evasions-evasions.result.leave c.evasions-evasions.result.enter c.args.barred c.evasions-evasions.ensures c.requires.barred _ _ _ c.minus-3.ensures c.minus-4.ensures

pub returns-clause-gate : goal.returns-clause-gate
returns-clause-gate c =
    gate_without_evading c.args.tables.now (repeat_of c.args.p.now) c.args.sets.now c.occupied-occupied.result c.requires.sets (c.occupied-occupied.ensures _ _ _ c.requires.sets) c.prove_position_sizes.ensures.cells
    c.evasions-evasions.result.leave c.evasions-evasions.result.enter c.args.barred c.evasions-evasions.ensures c.requires.barred _ _ _ c.minus-3.ensures c.minus-4.ensures
