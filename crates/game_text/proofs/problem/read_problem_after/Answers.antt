use Rattle.std.proofs.lemmas.Result.{err_from_is_err_and}
use Rattle.std.proofs.Common.{arith}
use Rattle.game_text.proofs.HeardLemmas.{heard_so, heard_then}
use Rattle.game_text.proofs.ReadLemmas.{says_fault, says_same}
use Rattle.game_text.proofs.ProblemLemmas.{after-bad, after-first, after-most, after-needs, after-problem, after-there}
use Rattle.game_text.proofs.problem.read_problem_after.Goals as goal

pub returns-in_err-game-clause-heard : goal.returns-in_err-game-clause-heard
returns-in_err-game-clause-heard g c =
    let p = err_from_is_err_and c.from_residual.result c.from_residual.ensures.1 in
    rw (p.1, p.2) (heard_so _ _ _ _ _ _ c.in_err-game.ensures.heard (after-first c.args.variants.now c.args.line.now)
    (λ lines says. says_fault _ _ c.in_err-game.field-0.0 (after-bad c.args.variants.now c.args.line.now g.G.ReadGoal.said lines) says))

pub returns-in_err-game-clause-cause : goal.returns-in_err-game-clause-cause
returns-in_err-game-clause-cause g c =
    let p = err_from_is_err_and c.from_residual.result c.from_residual.ensures.1 in
    rw (p.1, p.2) (record { later = omega arith; failed = λ unread. c.in_err-game.ensures.cause.failed unread })

pub returns-clause-heard : goal.returns-clause-heard
returns-clause-heard g c =
    heard_then _ _ _ 1 _ _ _ _ _ _ c.in_ok-game.ensures.heard c.read_on.ensures.heard
    (λ lines is. after-there c.args.variants.now c.args.line.now lines c.in_ok-game.game is) (after-most c.args.variants.now c.args.line.now)
    (λ front rest one is. after-needs c.args.variants.now c.args.line.now front rest c.in_ok-game.game one is)
    (λ front rest one is says. says_same _ _ c.read_on.result (after-problem c.args.variants.now c.args.line.now g.G.ReadGoal.said front rest c.in_ok-game.game one is) says)
