use Rattle.std.proofs.Common.{sym, subst}
use Rattle.mate_settle.specs.Tellings.{IsTold}
use Rattle.mate_core.specs.declared.frame.Frame.{Frame}
use Rattle.mate_core.specs.Runs.{IsTrueIn}
use Rattle.mate_settle.proofs.Settled.{tells}
use Rattle.mate_settle.proofs.settling.keep_now.Goals as goal

pub returns-in-Some-clause-told : goal.returns-in-Some-clause-told
returns-in-Some-clause-told c =
    let f = c.args.facts.now in
    let p = c.args.board.now.position in
    let k = c.in-Some.fact in
    let truth = subst (λ (x : Frame). IsTrueIn x k) c.frame.ensures c.in-Some.ensures.truth in
    subst (IsTold f p c.args.n) (sym c.of-told.ensures) (tells f k p c.args.n truth c.in-Some.ensures.serves)
