use Rattle.std.proofs.lemmas.Result.{err_from_is_err_and}
use Rattle.game_text.proofs.HeardLemmas.{heard_nothing}
use Rattle.one_shot_checks.proofs.checking.state.Goals as goal

pub returns-in_err-line-clause-heard : goal.returns-in_err-line-clause-heard
returns-in_err-line-clause-heard g c =
    let p = err_from_is_err_and c.from_residual.result c.from_residual.ensures.1 in
    rw (p.1, p.2) (heard_nothing _ _ _ (λ lines. tt))
