use Rattle.std.proofs.Common.{None, refl, sym, subst}
use Rattle.mate_fact.specs.InFrame.{left_after}
use Rattle.mate_settle.specs.Tellings.{IsTold}
use Rattle.mate_core.specs.declared.frame.Frame.{Frame}
use Rattle.mate_core.specs.Runs.{IsTrueIn}
use Rattle.mate_settle.proofs.Settled.{each-answers, none-moved, serves-as, tells}
use Rattle.mate_settle.proofs.settling.keep_each.Goals as goal

pub by_each-found-requires-clause-none : goal.by_each-found-requires-clause-none
by_each-found-requires-clause-none c =
    none-moved c.args.facts.now c.frame.result.now c.args.board.now.position c.position.result.now c.args.attacking c.args.far c.frame.ensures c.position.ensures c.requires.none

pub returns-clause-told : goal.returns-clause-told
returns-clause-told c =
    let f = c.args.facts.now in
    let p = c.args.board.now.position in
    let n = c.args.n in
    let a = c.args.attacking in
    let k = c.by_each-found.result in
    let truth = subst (λ (x : Frame). IsTrueIn x k) c.frame.ensures c.by_each-found.ensures.truth in
    let answers = serves-as f c.frame.result.now p c.position.result.now k _ n None _ c.frame.ensures c.position.ensures c.by_each-found.ensures.is
    (each-answers f p a (left_after a n) c.args.far n c.requires.far c.requires.small refl) in
    subst (IsTold f p n) (sym c.of-told.ensures) (tells f k p n truth answers)
