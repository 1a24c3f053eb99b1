use Rattle.std.proofs.Common.{Option, subst}
use Rattle.rules_model.specs.declared.board.Kind.{Kind}
use Rattle.piece_moves.specs.InTurn.{GoesTo}
use Rattle.rules_model.specs.Repeats.{repeat_of}
use Rattle.legality.proofs.GoLaws.{all_chosen, all_gated, on_true}
use Rattle.legality.proofs.move_filter.MoveFilter.holds_all.Goals as goal

pub returns-in-None : goal.returns-in-None
returns-in-None c =
    let move_filter = c.args.self.now in
    on_true c.lets_go.result c.lets_go.ensures
    (λ may. all_chosen move_filter.pin_info.tables.now (repeat_of move_filter.pin_info.p.now) move_filter.gen_type c.args.from c.args.gate c.args.targets c.requires.wanted c.requires.from c.requires.targets
    c.in-None.is may)

pub returns-then-kind-lt26 : goal.returns-then-kind-lt26
returns-then-kind-lt26 c =
    let move_filter = c.args.self.now in
    on_true c.lets_gate.result c.lets_gate.ensures
    (λ may m h. all_gated move_filter.pin_info.tables.now (repeat_of move_filter.pin_info.p.now) move_filter.gen_type c.args.from c.in-Some.kind c.args.targets c.requires.wanted c.requires.from c.if-kind-lt26.true c.requires.targets may
    m (subst (λ (gate : Option Kind). GoesTo c.args.from gate c.args.targets m) c.in-Some.is h))
