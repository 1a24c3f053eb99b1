use Rattle.std.proofs.Common.{◌≡◌, ◌∙◌, map, subst, sym}
use Rattle.std.specs.List.Sorted.{IsPermutation}
use Rattle.std.proofs.lemmas.List.Sorted.{IsPermutation-map}
use Rattle.foundation.specs.Member.{Member, Lists}
use Rattle.legality.specs.Stance.{legal_in}
use Rattle.mate_settle.specs.Known.{weighed_of}
use Rattle.mate_settle.proofs.OrderLaws.{lists-permuted}
use Rattle.mate_settle.proofs.weighing.weighed_moves.Goals as goal

pub weigh_all-requires-clause-moves : goal.weigh_all-requires-clause-moves
weigh_all-requires-clause-moves c = λ m k. c.in_ok-moves.ensures.sound m (subst (Member m) (c.as_slice.ensures.value ∙ c.moves.view_is) k)

pub returns : goal.returns
returns c =
    let after = c.sort_by_key.new.self.items in
    let before : map weighed_of c.in_ok-weighed.weighed.items ≡ c.as_slice.result.now = c.in_ok-weighed.ensures in
    lists-permuted (λ m. Member m (legal_in c.args.board.now)) c.as_slice.result.now (map weighed_of after)
    (subst (λ ms. IsPermutation ms (map weighed_of after)) before
    (IsPermutation-map weighed_of c.in_ok-weighed.weighed.items after c.sort_by_key.ensures.permutation))
    (subst (Lists (λ m. Member m (legal_in c.args.board.now))) (sym (c.as_slice.ensures.value ∙ c.moves.view_is)) c.in_ok-moves.ensures)
