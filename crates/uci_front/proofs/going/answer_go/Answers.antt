use Rattle.std.proofs.Common.{◌∙◌}
use Rattle.uci_front.proofs.GoLemmas.{if_told, if_untold, served_once, unserved_once, unserved_still}
use Rattle.uci_front.proofs.HeldLemmas.{on_err}
use Rattle.uci_front.proofs.going.answer_go.Goals as goal

pub returns-in_err-text-clause-unserved : goal.returns-in_err-text-clause-unserved
returns-in_err-text-clause-unserved g c =
    on_err c.from_residual.result (λ contents line asked asks is.
    unserved_still c.args.session.now c.args.plan.now c.args.source.now c.args.sink.now c.args.clock.now contents line asked asks is)

pub returns-in-Some-clause-served : goal.returns-in-Some-clause-served
returns-in-Some-clause-served g c =
    if_told c.tell.result _ _ c.tell.ensures.said c.tell.ensures.takes (λ next wrote takes.
    served_once c.args.session.now c.forget_mate.new.self c.args.plan.now c.game.result.now c.in-Some.text c.as_slice.result.now c.game.ensures
    (rw c.in-Some.is at c.in_ok-text.ensures) (c.as_slice.ensures.value ∙ c.text.view_is) c.forget_mate.ensures c.args.clock.now wrote takes c.tell.ensures.owed)

pub returns-in-Some-clause-unserved : goal.returns-in-Some-clause-unserved
returns-in-Some-clause-unserved g c =
    if_untold c.tell.result c.tell.ensures.part c.tell.ensures.still (λ wrote still.
    rw still (unserved_once c.args.session.now c.forget_mate.new.self c.args.plan.now c.game.result.now c.in-Some.text c.as_slice.result.now c.game.ensures
    (rw c.in-Some.is at c.in_ok-text.ensures) (c.as_slice.ensures.value ∙ c.text.view_is) c.forget_mate.ensures c.args.source.now c.args.clock.now wrote))
