use Rattle.std.proofs.Common.{◌≡◌, ◌∙◌, length, ap, arith, refl}
use Rattle.session_model.specs.UciState.{State}
use Rattle.uci_front.specs.declared.plan.GoPlan.{GoPlan}
use Rattle.uci_front.proofs.HeldLemmas.{on_err}
use Rattle.uci_front.proofs.ThinkLemmas.{as_task, begins, broke_at, clock_read, deepened_at, depths_broke, depths_come, ready, task_of_plan}
use Rattle.uci_front.proofs.searching.search_depths.Goals as goal

pub iterative_deepening-requires-clause-task : goal.iterative_deepening-requires-clause-task
iterative_deepening-requires-clause-task g c =
    let (asked, is) = c.requires.asked in
    let game : c.session.inside.game ≡ c.args.session.now.game = ap (λ (s : State). s.game) c.session.view_is in
    let r = ready c.args.session.now c.args.plan.now asked is c.requires.some c.session.inside.game game c.as_slice-roots.result.now
    (c.as_slice-roots.ensures.value ∙ ap (λ (p : GoPlan). p.roots.items) c.plan.view_is)
    (length c.as_slice-roots.result.now) (length c.as_slice-legal.result.now)
    (ap length (c.as_slice-roots.ensures.value ∙ ap (λ (p : GoPlan). p.roots.items) c.plan.view_is))
    (ap length (c.as_slice-legal.ensures.value ∙ ap (λ (p : GoPlan). p.legal) c.plan.view_is)) in
    let depths = ap (λ (p : GoPlan). p.depths) c.plan.view_is in
    λ _ _. as_task _ r.0 r.1 r.2 (omega (arith, r.3, depths)) (omega (arith, r.4, depths))

pub returns-in_err-depths-clause-broke : goal.returns-in_err-depths-clause-broke
returns-in_err-depths-clause-broke g c =
    let (first, more, legal) = begins c.args.plan.now.legal c.requires.some in
    let game : c.session.inside.game ≡ c.args.session.now.game = ap (λ (s : State). s.game) c.session.view_is in
    on_err c.from_residual.result
    (depths_broke c.args.session.now c.args.plan.now c.requires.perft c.requires.mate first more legal c.begin-start.result.first
    (clock_read c.args.source.now c.args.sink.now c.begin-start.result.first c.begin-start.ensures.given c.begin-start.ensures.count c.begin-start.ensures.last)
    (broke_at c.begin-start.result.first _ _ (task_of_plan c.args.session.now c.session.inside.game c.as_slice-roots.result.now _ c.args.plan.now game c.as_slice-roots.ensures.value c.plan.view_is)
    (c.in_err-depths.ensures.broke _ refl)))

pub returns-clause-came : goal.returns-clause-came
returns-clause-came g c =
    let (first, more, legal) = begins c.args.plan.now.legal c.requires.some in
    let game : c.session.inside.game ≡ c.args.session.now.game = ap (λ (s : State). s.game) c.session.view_is in
    rw c.go_result_of.ensures
    (depths_come c.args.session.now c.args.plan.now c.requires.perft c.requires.mate first more legal c.begin-start.result.first
    (clock_read c.args.source.now c.args.sink.now c.begin-start.result.first c.begin-start.ensures.given c.begin-start.ensures.count c.begin-start.ensures.last)
    c.iterative_deepening.new.line c.in_ok-depths.depths
    (deepened_at first c.begin-start.result.first c.iterative_deepening.new.line c.in_ok-depths.depths _ _
    (task_of_plan c.args.session.now c.session.inside.game c.as_slice-roots.result.now _ c.args.plan.now game c.as_slice-roots.ensures.value c.plan.view_is)
    (c.in_ok-depths.ensures.deepened first)))
