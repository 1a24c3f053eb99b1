use Rattle.std.proofs.Common.{sym, subst}
use Rattle.legality.specs.Stance.{after}
use Rattle.mate_core.specs.declared.frame.Frame.{Frame}
use Rattle.mate_fact.specs.InFrame.{left_after}
use Rattle.mate_settle.specs.Tellings.{IsTold}
use Rattle.mate_tree.proofs.WeightLaws.{member-not-stuck}
use Rattle.mate_tree.proofs.growing.by_step.Goals as goal

pub keep_now-requires-clause-any : goal.keep_now-requires-clause-any
keep_now-requires-clause-any c = member-not-stuck c.args.board.now c.args.step.now.chosen c.requires.step.legal

pub decide-requires-clause-told : goal.decide-requires-clause-told
decide-requires-clause-told c =
    let f = c.args.facts.now in
    let n = c.args.n in
    let step = c.args.step.now in
    let q = (after c.args.board.now step.chosen).position in
    subst (λ (h : Frame). IsTold h q (left_after c.args.attacking n) step.told) (sym c.keep_now.ensures.frame)
    (subst (λ a. IsTold f q (left_after a n) step.told) c.requires.turn c.requires.step.told)
