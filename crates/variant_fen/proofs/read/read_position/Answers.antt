use Rattle.std.proofs.Common.{sym}
use Rattle.std.proofs.lemmas.Result.{err_from_is_err_and}
use Rattle.fen_model.specs.Pocket.{hands_of}
use Rattle.variant_fen.specs.FieldView.{fields_view}
use Rattle.variant_fen.proofs.CappedLaws.{said_judged}
use Rattle.variant_fen.proofs.SaidLaws.{Begun, GoneOn, capped_fault, capped_hands, said_cells, said_checks, said_counter, said_hands, said_held, said_number, said_passed, said_side}
use Rattle.variant_fen.proofs.read.read_position.Goals as goal

pub returns-in_err-read_board : goal.returns-in_err-read_board
returns-in_err-read_board c =
    let p = err_from_is_err_and c.from_residual.result c.from_residual.ensures.1 in
    rw (p.1, p.2) (sym (said_cells c.args.rules.now (fields_view c.args.texts) _ c.in_err-read_board.ensures))

pub returns-in_err-hands : goal.returns-in_err-hands
returns-in_err-hands c =
    let f = fields_view c.args.texts in
    let p = err_from_is_err_and c.from_residual-in_err-hands.result c.from_residual-in_err-hands.ensures.1 in
    rw (p.1, p.2) (sym (said_hands c.args.rules.now f c.read_board.new.cells _ c.in_ok-read_board.ensures (capped_fault (hands_of c.args.rules.now f.pocket) _ c.in_err-hands.ensures)))

pub returns-in_err-side : goal.returns-in_err-side
returns-in_err-side c =
    let f = fields_view c.args.texts in
    let hands = capped_hands (hands_of c.args.rules.now f.pocket) c.in_ok-hands.hands c.in_ok-hands.ensures in
    let p = err_from_is_err_and c.from_residual-in_err-side.result c.from_residual-in_err-side.ensures.1 in
    rw (p.1, p.2) (sym (said_side c.args.rules.now f c.read_board.new.cells hands.0 _ c.in_ok-read_board.ensures hands.1 (sym c.in_err-side.ensures)))

pub returns-in_err-held : goal.returns-in_err-held
returns-in_err-held c =
    let f = fields_view c.args.texts in
    let hands = capped_hands (hands_of c.args.rules.now f.pocket) c.in_ok-hands.hands c.in_ok-hands.ensures in
    let begun : Begun c.args.rules.now f c.read_board.new.cells hands.0 c.in_ok-side.side = record { cells_read = c.in_ok-read_board.ensures; hands_read = hands.1; side_read = sym c.in_ok-side.ensures } in
    let p = err_from_is_err_and c.from_residual-in_err-held.result c.from_residual-in_err-held.ensures.1 in
    rw (p.1, p.2) (sym (said_held c.args.rules.now f c.read_board.new.cells hands.0 c.in_ok-side.side _ begun (sym c.in_err-held.ensures)))

pub returns-in_err-ep : goal.returns-in_err-ep
returns-in_err-ep c =
    let f = fields_view c.args.texts in
    let hands = capped_hands (hands_of c.args.rules.now f.pocket) c.in_ok-hands.hands c.in_ok-hands.ensures in
    let begun : Begun c.args.rules.now f c.read_board.new.cells hands.0 c.in_ok-side.side = record { cells_read = c.in_ok-read_board.ensures; hands_read = hands.1; side_read = sym c.in_ok-side.ensures } in
    let p = err_from_is_err_and c.from_residual-in_err-ep.result c.from_residual-in_err-ep.ensures.1 in
    rw (p.1, p.2) (sym (said_passed c.args.rules.now f c.read_board.new.cells hands.0 c.in_ok-side.side c.in_ok-held.held _ begun (sym c.in_ok-held.ensures) (sym c.in_err-ep.ensures)))

pub returns-in_err-checks : goal.returns-in_err-checks
returns-in_err-checks c =
    let f = fields_view c.args.texts in
    let hands = capped_hands (hands_of c.args.rules.now f.pocket) c.in_ok-hands.hands c.in_ok-hands.ensures in
    let begun : Begun c.args.rules.now f c.read_board.new.cells hands.0 c.in_ok-side.side = record { cells_read = c.in_ok-read_board.ensures; hands_read = hands.1; side_read = sym c.in_ok-side.ensures } in
    let p = err_from_is_err_and c.from_residual-in_err-checks.result c.from_residual-in_err-checks.ensures.1 in
    rw (p.1, p.2) (sym (said_checks c.args.rules.now f c.read_board.new.cells hands.0 c.in_ok-side.side c.in_ok-held.held c.in_ok-ep.ep _ begun (sym c.in_ok-held.ensures) (sym c.in_ok-ep.ensures) (sym c.in_err-checks.ensures)))

pub returns-in_err-counter : goal.returns-in_err-counter
returns-in_err-counter c =
    let f = fields_view c.args.texts in
    let hands = capped_hands (hands_of c.args.rules.now f.pocket) c.in_ok-hands.hands c.in_ok-hands.ensures in
    let begun : Begun c.args.rules.now f c.read_board.new.cells hands.0 c.in_ok-side.side = record { cells_read = c.in_ok-read_board.ensures; hands_read = hands.1; side_read = sym c.in_ok-side.ensures } in
    let gone : GoneOn c.args.rules.now f c.read_board.new.cells c.in_ok-side.side c.in_ok-held.held c.in_ok-ep.ep c.in_ok-checks.checks = record { held_read = sym c.in_ok-held.ensures; ep_read = sym c.in_ok-ep.ensures; checks_read = sym c.in_ok-checks.ensures } in
    let p = err_from_is_err_and c.from_residual-in_err-counter.result c.from_residual-in_err-counter.ensures.1 in
    rw (p.1, p.2) (sym (said_counter c.args.rules.now f c.read_board.new.cells hands.0 c.in_ok-side.side c.in_ok-held.held c.in_ok-ep.ep c.in_ok-checks.checks _ begun gone (sym c.in_err-counter.ensures)))

pub returns-in_err-read_count : goal.returns-in_err-read_count
returns-in_err-read_count c =
    let f = fields_view c.args.texts in
    let hands = capped_hands (hands_of c.args.rules.now f.pocket) c.in_ok-hands.hands c.in_ok-hands.ensures in
    let begun : Begun c.args.rules.now f c.read_board.new.cells hands.0 c.in_ok-side.side = record { cells_read = c.in_ok-read_board.ensures; hands_read = hands.1; side_read = sym c.in_ok-side.ensures } in
    let gone : GoneOn c.args.rules.now f c.read_board.new.cells c.in_ok-side.side c.in_ok-held.held c.in_ok-ep.ep c.in_ok-checks.checks = record { held_read = sym c.in_ok-held.ensures; ep_read = sym c.in_ok-ep.ensures; checks_read = sym c.in_ok-checks.ensures } in
    let p = err_from_is_err_and c.from_residual-in_err-read_count.result c.from_residual-in_err-read_count.ensures.1 in
    rw (p.1, p.2) (sym (said_number c.args.rules.now f c.read_board.new.cells hands.0 c.in_ok-side.side c.in_ok-held.held c.in_ok-ep.ep c.in_ok-checks.checks c.in_ok-counter.counter _ begun gone (sym c.in_ok-counter.ensures) (sym c.in_err-read_count.ensures)))

pub returns-in_err-judge : goal.returns-in_err-judge
returns-in_err-judge c =
    let f = fields_view c.args.texts in
    let hands = capped_hands (hands_of c.args.rules.now f.pocket) c.in_ok-hands.hands c.in_ok-hands.ensures in
    let begun : Begun c.args.rules.now f c.read_board.new.cells hands.0 c.in_ok-side.side = record { cells_read = c.in_ok-read_board.ensures; hands_read = hands.1; side_read = sym c.in_ok-side.ensures } in
    let gone : GoneOn c.args.rules.now f c.read_board.new.cells c.in_ok-side.side c.in_ok-held.held c.in_ok-ep.ep c.in_ok-checks.checks = record { held_read = sym c.in_ok-held.ensures; ep_read = sym c.in_ok-ep.ensures; checks_read = sym c.in_ok-checks.ensures } in
    let p = err_from_is_err_and c.from_residual-in_err-judge.result c.from_residual-in_err-judge.ensures.1 in
    rw (p.1, p.2) (sym (said_judged c.args.rules.now f c.read_board.new.cells c.in_ok-hands.hands hands.0 c.in_ok-side.side c.in_ok-held.held c.in_ok-ep.ep c.in_ok-checks.checks c.in_ok-counter.counter c.in_ok-read_count.field-0 c.max-number.result _ begun gone
    (sym c.in_ok-counter.ensures) (sym c.in_ok-read_count.ensures) hands.2 c.max-number.ensures c.in_err-judge.ensures))

pub returns : goal.returns
returns c =
    let f = fields_view c.args.texts in
    let hands = capped_hands (hands_of c.args.rules.now f.pocket) c.in_ok-hands.hands c.in_ok-hands.ensures in
    let begun : Begun c.args.rules.now f c.read_board.new.cells hands.0 c.in_ok-side.side = record { cells_read = c.in_ok-read_board.ensures; hands_read = hands.1; side_read = sym c.in_ok-side.ensures } in
    let gone : GoneOn c.args.rules.now f c.read_board.new.cells c.in_ok-side.side c.in_ok-held.held c.in_ok-ep.ep c.in_ok-checks.checks = record { held_read = sym c.in_ok-held.ensures; ep_read = sym c.in_ok-ep.ensures; checks_read = sym c.in_ok-checks.ensures } in
    sym (said_judged c.args.rules.now f c.read_board.new.cells c.in_ok-hands.hands hands.0 c.in_ok-side.side c.in_ok-held.held c.in_ok-ep.ep c.in_ok-checks.checks c.in_ok-counter.counter c.in_ok-read_count.field-0 c.max-number.result _ begun gone
    (sym c.in_ok-counter.ensures) (sym c.in_ok-read_count.ensures) hands.2 c.max-number.ensures c.in_ok-judge.ensures)
