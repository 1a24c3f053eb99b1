use Rattle.std.proofs.Common.{Option, subst}
use Rattle.rules_model.specs.declared.board.Kind.{Kind}
use Rattle.piece_moves.specs.InTurn.{GoesTo}
use Rattle.rules_model.specs.Repeats.{repeat_of}
use Rattle.legality.proofs.GoLaws.{none_chosen, none_gated, on_true}
use Rattle.legality.proofs.move_filter.MoveFilter.holds_none.Goals as goal

pub returns-in-None : goal.returns-in-None
returns-in-None c =
    let move_filter = c.args.self.now in
    on_true c.bars_go.result c.bars_go.ensures
    (λ none. none_chosen move_filter.pin_info.tables.now (repeat_of move_filter.pin_info.p.now) move_filter.gen_type c.args.from c.args.gate c.args.targets c.requires.targets c.in-None.is none)

pub returns-in-Some : goal.returns-in-Some
returns-in-Some c =
    let move_filter = c.args.self.now in
    on_true c.bars_gate.result c.bars_gate.ensures
    (λ none m h. none_gated move_filter.pin_info.tables.now (repeat_of move_filter.pin_info.p.now) move_filter.gen_type c.args.from c.in-Some.kind c.args.targets c.requires.targets none
    m (subst (λ (gate : Option Kind). GoesTo c.args.from gate c.args.targets m) c.in-Some.is h))
