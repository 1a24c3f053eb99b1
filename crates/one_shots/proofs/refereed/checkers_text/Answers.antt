use Rattle.std.proofs.lemmas.Result.{err_from_is_err_and}
use Rattle.game_text.proofs.HeardLemmas.{heard_so, same_needed}
use Rattle.checkers.specs.CheckersText.{checkers_of}
use Rattle.one_shots.proofs.AnswerLemmas.{game_answers, no_game_answers}
use Rattle.one_shots.proofs.refereed.checkers_text.Goals as goal

pub returns-in_err-game-clause-heard : goal.returns-in_err-game-clause-heard
returns-in_err-game-clause-heard g c =
    let p = err_from_is_err_and c.from_residual.result c.from_residual.ensures.1 in
    rw (p.1, p.2) (heard_so _ _ _ _ _ _ c.in_err-game.ensures.heard (same_needed _) (λ lines says. no_game_answers checkers_of _ c.in_err-game.field-0.0 says))

pub returns-in_err-checkers_of-clause-heard : goal.returns-in_err-checkers_of-clause-heard
returns-in_err-checkers_of-clause-heard g c =
    let p = err_from_is_err_and c.from_residual-in_err-checkers_of.result c.from_residual-in_err-checkers_of.ensures.1 in
    rw (p.1, p.2) (heard_so _ _ _ _ _ _ c.in_ok-game.ensures.heard (same_needed _) (λ lines says. tt))

pub returns-clause-heard : goal.returns-clause-heard
returns-clause-heard g c = heard_so _ _ _ _ _ _ c.in_ok-game.ensures.heard (same_needed _) (λ lines says. game_answers checkers_of _ c.in_ok-game.game _ says c.in_ok-checkers_of.ensures)
