use Rattle.std.proofs.Common.{arith}
use Rattle.std.proofs.lemmas.Result.{err_from_is_err_and}
use Rattle.game_text.proofs.HeardLemmas.{heard_so, same_needed}
use Rattle.one_shot_checks.proofs.NoAnswerLemmas.{answers_so}
use Rattle.one_shots.proofs.PnMateLemmas.{mate_answers, no_mate_answers}
use Rattle.one_shots.proofs.pn_mate_text.pn_mate_text.Goals as goal

pub returns-in_err-game-clause-heard : goal.returns-in_err-game-clause-heard
returns-in_err-game-clause-heard g c =
    let p = err_from_is_err_and c.from_residual.result c.from_residual.ensures.1 in
    rw (p.1, p.2) (heard_so _ _ _ _ _ _ c.in_err-game.ensures.heard (same_needed _) (λ lines says. no_mate_answers c.args.moves _ c.in_err-game.field-0.0 says))

pub returns-in_err-count-clause-heard : goal.returns-in_err-count-clause-heard
returns-in_err-count-clause-heard g c =
    let p = err_from_is_err_and c.from_residual-in_err-count.result c.from_residual-in_err-count.ensures.1 in
    rw (p.1, p.2) (heard_so _ _ _ _ _ _ c.in_ok-game.ensures.heard (same_needed _) (λ lines says. tt))

pub returns-clause-heard : goal.returns-clause-heard
returns-clause-heard g c =
    heard_so _ _ _ _ _ _ c.in_ok-game.ensures.heard (same_needed _)
    (λ lines says. answers_so c.print.result _ _ (λ status text prints. mate_answers c.args.moves _ c.in_ok-game.game c.in_ok-count.count status text says c.in_ok-count.ensures prints) c.print.ensures.prints)

pub returns-clause-cause : goal.returns-clause-cause
returns-clause-cause g c = let later = c.in_ok-game.ensures.cause.later in record { later = omega (arith, later); failed = λ unheard. absurd (c.print.ensures.heard unheard) }
