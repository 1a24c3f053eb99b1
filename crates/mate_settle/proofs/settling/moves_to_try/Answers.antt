use Rattle.std.proofs.Common.{◌∙◌, subst, sym}
use Rattle.foundation.specs.Member.{Member, Lists}
use Rattle.legality.specs.Stance.{legal_in}
use Rattle.mate_settle.proofs.OrderLaws.{lists-permuted}
use Rattle.mate_settle.proofs.settling.moves_to_try.Goals as goal

pub returns-then-n-lt2 : goal.returns-then-n-lt2
returns-then-n-lt2 c = subst (Lists (λ m. Member m (legal_in c.args.board.now))) (sym c.moves.view_is) c.in_ok-moves.ensures

pub in_order-requires : goal.in_order-requires
in_order-requires c = λ m k. c.in_ok-moves.ensures.sound m (subst (Member m) (c.as_slice.ensures.value ∙ c.moves.view_is) k)

pub returns : goal.returns
returns c =
    lists-permuted (λ m. Member m (legal_in c.args.board.now)) c.as_slice.result.now _ c.in_ok-ordered.ensures
    (subst (Lists (λ m. Member m (legal_in c.args.board.now))) (sym (c.as_slice.ensures.value ∙ c.moves.view_is)) c.in_ok-moves.ensures)
