use Rattle.std.proofs.Common.{◌≡◌, arith, None, Some, slice_get, subst, sym}
use Rattle.std.specs.Option.{IfSome}
use Rattle.foundation.specs.Member.{Lists, Member}
use Rattle.legality.specs.Stance.{legal_in}
use Rattle.rules_model.specs.declared.moves.Move.{Move}
use Rattle.mate_showing.proofs.OrderLaws.{first-named, lists-first, written-first}
use Rattle.mate_showing.proofs.ordering.moves_from.Goals as goal

pub returns-clause-each : goal.returns-clause-each
returns-clause-each c =
    let ms = c.in_ok-moves.moves.items in
    let n = c.in_ok-moves.moves.len in
    let to = c.to_front.new.moves in
    let place = c.place_of-place.result in
    let listed : Move → Type 0 = λ m. Member m (legal_in c.args.board.now) in
    let kept = c.to_front.auto.moves in
    let whole = c.in_ok-moves.moves.ok.0 in
    let is = written-first ms to c.as_mut_slice.result.now place n c.as_mut_slice.ensures.value c.to_front.ensures (omega arith) (omega arith) in
    subst (Lists listed) (sym is) (lists-first listed ms place c.in_ok-moves.ensures)

pub returns-clause-first : goal.returns-clause-first
returns-clause-first c =
    let ms = c.in_ok-moves.moves.items in
    let n = c.in_ok-moves.moves.len in
    let to = c.to_front.new.moves in
    let place = c.place_of-place.result in
    let first = c.in-Some.first in
    let kept = c.to_front.auto.moves in
    let whole = c.in_ok-moves.moves.ok.0 in
    let is = written-first ms to c.as_mut_slice.result.now place n c.as_mut_slice.ensures.value c.to_front.ensures (omega arith) (omega arith) in
    let here : IfSome place (λ at. slice_get ms at ≡ Some first) = rw c.as_slice.ensures.value at c.place_of-place.ensures.here in
    let none : place ≡ None → Member first ms → ⊥ = rw c.as_slice.ensures.value at c.place_of-place.ensures.none in
    rw (c.in-Some.is, is) (first-named (legal_in c.args.board.now) ms first place (c.in_ok-moves.ensures.complete first) here none)
