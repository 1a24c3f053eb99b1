use Rattle.std.proofs.Common.{arith, subst, sym}
use Rattle.foundation.specs.Member.{Lists, Member}
use Rattle.legality.specs.Stance.{legal_in}
use Rattle.rules_model.specs.declared.moves.Move.{Move}
use Rattle.mate_showing.proofs.OrderLaws.{lists-first, written-first}
use Rattle.mate_search.proofs.ordering.hinted_moves.Goals as goal

pub returns : goal.returns
returns c =
    let ms = c.in_ok-moves.moves.items in
    let n = c.in_ok-moves.moves.len in
    let to = c.to_front.new.moves in
    let listed : Move → Type 0 = λ m. Member m (legal_in c.args.board.now) in
    let kept = c.to_front.auto.moves in
    let whole = c.in_ok-moves.moves.ok.0 in
    let is = written-first ms to c.as_mut_slice.result.now _ n c.as_mut_slice.ensures.value c.to_front.ensures (omega arith) (omega arith) in
    subst (Lists listed) (sym is) (lists-first listed ms _ c.in_ok-moves.ensures)
