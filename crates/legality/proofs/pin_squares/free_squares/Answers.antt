use Rattle.std.proofs.Common.{◌∙◌, sym}
use Rattle.std.proofs.lemmas.Bool.{and_parts, not-true}
use Rattle.rules_model.specs.Repeats.{repeat_of}
use Rattle.legality.proofs.UnpinnedLaws.{drop_freely, gate_freely, go_freely}
use Rattle.legality.proofs.pin_squares.free_squares.Goals as goal

pub returns-clause-safe : goal.returns-clause-safe
returns-clause-safe c =
    go_freely c.args.tables.now (repeat_of c.args.p.now) c.args.sets.now c.occupied-occupied.result c.requires (c.occupied-occupied.ensures _ _ _ c.requires) c.prove_position_sizes.ensures.cells
    c.free-anywhere.result c.free-anywhere.ensures c.and-own.result c.minus-to_leave.result c.and-own.ensures c.minus-to_leave.ensures

pub returns-clause-own : goal.returns-clause-own
returns-clause-own c s h =
    let few = and_parts _ _ (sym (c.minus-to_leave.ensures s) ∙ h) in
    let some = and_parts _ _ (sym (c.and-own.ensures s) ∙ few.0) in
    sym (c.requires.own s) ∙ some.1

pub returns-clause-no_king : goal.returns-clause-no_king
returns-clause-no_king c s h =
    let few = and_parts _ _ (sym (c.minus-to_leave.ensures s) ∙ h) in
    sym (c.requires.kings s) ∙ not-true _ few.1

pub returns-clause-drops : goal.returns-clause-drops
returns-clause-drops c =
    drop_freely c.args.tables.now (repeat_of c.args.p.now) c.args.sets.now c.occupied-occupied.result c.requires (c.occupied-occupied.ensures _ _ _ c.requires) c.prove_position_sizes.ensures.cells
    c.free-anywhere.result c.free-anywhere.ensures c.minus-to_enter.result c.minus-to_enter.ensures

pub returns-clause-gates : goal.returns-clause-gates
returns-clause-gates c =
    gate_freely c.args.tables.now (repeat_of c.args.p.now) c.args.sets.now c.occupied-occupied.result c.requires (c.occupied-occupied.ensures _ _ _ c.requires) c.prove_position_sizes.ensures.cells
    c.free-anywhere.result c.free-anywhere.ensures c.minus-to_enter.result c.minus-to_enter.ensures
