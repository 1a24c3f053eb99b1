use Rattle.std.proofs.lemmas.Result.{err_from_is_err_and}
use Rattle.proof_text.proofs.ReadingLemmas.{goes-on, says-on, why-on}
use Rattle.proof_text.proofs.reading.read_on_history.Goals as goal

pub returns-in_err-count-clause-heard : goal.returns-in_err-count-clause-heard
returns-in_err-count-clause-heard g c =
    let p = err_from_is_err_and c.from_residual.result c.from_residual.ensures.1 in
    rw (p.1, p.2) c.in_err-count.ensures.reads

pub returns-in_err-take_moves-clause-heard : goal.returns-in_err-take_moves-clause-heard
returns-in_err-take_moves-clause-heard g c =
    let p = err_from_is_err_and c.from_residual-in_err-take_moves.result c.from_residual-in_err-take_moves.ensures.1 in
    rw (p.1, p.2) (why-on _ _ _ _ _ c.in_err-take_moves.field-0.0 c.in_ok-count.ensures.reads c.in_err-take_moves.ensures.reads)

pub returns-clause-heard : goal.returns-clause-heard
returns-clause-heard g c = says-on _ _ _ _ _ c.read_on_goal.result (goes-on _ _ _ _ _ _ c.in_ok-count.ensures.reads c.in_ok-take_moves.ensures.reads) c.read_on_goal.ensures.heard
