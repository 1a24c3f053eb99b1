use Rattle.std.proofs.Common.{sym, ◌∙◌, arith}
use Rattle.std.proofs.lemmas.Bool.{ne_eqb}
use Rattle.legality.proofs.GoLaws.{on_true}
use Rattle.check_moves.proofs.TakeLaws.{may-be-taken}
use Rattle.check_moves.proofs.flights.may_take.Goals as goal

pub returns : goal.returns
returns c =
    let s = c.args.board.now in
    let flight = c.args.flight.now in
    let at = flight.king.at in
    let from = c.args.from in
    let is = c.requires.flight in
    let occupied = c.occupied.ensures _ _ _ c.sets.ensures in
    let later = c.prove_moved.ensures from flight.to (let l = c.requires.from in omega (arith, l)) (let l = is.small in omega (arith, l)) in
    let stepped = c.prove_stepped.ensures from flight.to (let l = c.requires.from in omega (arith, l)) (let l = is.small in omega (arith, l)) in
    on_true c.takes_there.result c.takes_there.ensures (λ hit kind board long come.
    may-be-taken s flight is kind from (ne_eqb from at c.if-from-king.false) board long come stepped.set stepped.is
    (sym c.has.ensures ∙ c.if-not-has.false) c.occupied.result later.set occupied later.is (hit later.set))
