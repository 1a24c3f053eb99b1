use Rattle.std.proofs.lemmas.Result.{err_from_is_err_and}
use Rattle.proof_text.proofs.ReadingLemmas.{says-on}
use Rattle.proof_text.proofs.reading.read_on_start.Goals as goal

pub returns-in_err-game-clause-heard : goal.returns-in_err-game-clause-heard
returns-in_err-game-clause-heard g c =
    let p = err_from_is_err_and c.from_residual.result c.from_residual.ensures.1 in
    rw (p.1, p.2) c.in_err-game.ensures.reads

pub returns-clause-heard : goal.returns-clause-heard
returns-clause-heard g c = says-on _ _ _ _ _ c.read_on_history.result c.in_ok-game.ensures.reads c.read_on_history.ensures.heard
