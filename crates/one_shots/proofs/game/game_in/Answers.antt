use Rattle.std.proofs.Common.{Ok, Err, arith}
use Rattle.std.proofs.lemmas.Result.{err_from_is_err_and}
use Rattle.game_text.proofs.HeardLemmas.{heard_nothing, heard_so, same_needed}
use Rattle.one_shots.proofs.AnswerLemmas.{no_game_says, no_game_unheard, read_heard}
use Rattle.one_shots.proofs.game.game_in.Goals as goal

pub returns-in_err-variants-clause-heard : goal.returns-in_err-variants-clause-heard
returns-in_err-variants-clause-heard g c =
    let p = err_from_is_err_and c.from_residual.result c.from_residual.ensures.1 in
    rw (p.1, p.2) (heard_nothing _ _ _ (λ lines. tt))

pub returns-in_err-read_game-clause-heard : goal.returns-in_err-read_game-clause-heard
returns-in_err-read_game-clause-heard g c =
    let p = err_from_is_err_and c.from_residual-in_err-read_game.result c.from_residual-in_err-read_game.ensures.1 in
    rw (p.1, p.2) (heard_so _ _ _ _ _ _ (read_heard _ _ _ _ (Err c.in_err-read_game.field-0.0) c.in_ok-variants.ensures c.in_err-read_game.ensures.heard) (same_needed _) (λ lines says. no_game_says _ c.in_err-read_game.field-0.0 says))

pub returns-in_err-read_game-clause-cause : goal.returns-in_err-read_game-clause-cause
returns-in_err-read_game-clause-cause g c =
    let p = err_from_is_err_and c.from_residual-in_err-read_game.result c.from_residual-in_err-read_game.ensures.1 in
    rw (p.1, p.2) (record { later = omega arith; failed = λ unheard. c.in_err-read_game.ensures.cause.failed (no_game_unheard c.in_err-read_game.field-0.0 unheard) })

pub returns-clause-heard : goal.returns-clause-heard
returns-clause-heard g c = heard_so _ _ _ _ _ _ (read_heard _ _ _ _ (Ok c.in_ok-read_game.field-0) c.in_ok-variants.ensures c.in_ok-read_game.ensures.heard) (same_needed _) (λ lines says. says)
