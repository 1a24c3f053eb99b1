use Rattle.std.proofs.lemmas.Result.{err_from_is_err_and}
use Rattle.proof_text.proofs.ReadingLemmas.{says-on}
use Rattle.proof_text.proofs.reading.read_on_goal.Goals as goal

pub returns-in_err-goal-clause-heard : goal.returns-in_err-goal-clause-heard
returns-in_err-goal-clause-heard g c =
    let p = err_from_is_err_and c.from_residual.result c.from_residual.ensures.1 in
    rw (p.1, p.2) c.in_err-goal.ensures.reads

pub returns-clause-heard : goal.returns-clause-heard
returns-clause-heard g c = says-on _ _ _ _ _ c.read_on_body.result c.in_ok-goal.ensures.reads c.read_on_body.ensures.heard
