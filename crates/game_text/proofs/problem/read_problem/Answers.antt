use Rattle.std.proofs.lemmas.Result.{err_from_is_err_and}
use Rattle.std.proofs.Common.{arith}
use Rattle.game_text.proofs.HeardLemmas.{heard_nothing, heard_so, heard_then}
use Rattle.game_text.proofs.ReadLemmas.{says_fault, says_same}
use Rattle.game_text.proofs.StartLemmas.{start-most, start-there}
use Rattle.game_text.proofs.ProblemLemmas.{start-bad, start-first, start-problem, start-problem-needs}
use Rattle.game_text.proofs.problem.read_problem.Goals as goal

pub returns-in_err-line-clause-heard : goal.returns-in_err-line-clause-heard
returns-in_err-line-clause-heard g c =
    let p = err_from_is_err_and c.from_residual.result c.from_residual.ensures.1 in
    rw (p.1, p.2) (heard_nothing _ _ _ (λ lines. tt))

pub returns-in_err-game-clause-heard : goal.returns-in_err-game-clause-heard
returns-in_err-game-clause-heard g c =
    let p = err_from_is_err_and c.from_residual-in_err-game.result c.from_residual-in_err-game.ensures.1 in
    rw (p.1, p.2) (heard_so _ _ _ _ _ _ c.in_err-game.ensures.heard (start-first c.args.variants.now)
    (λ lines says. says_fault _ _ c.in_err-game.field-0.0 (start-bad g.G.ReadGoal.said c.args.variants.now lines) says))

pub returns-in_err-game-clause-cause : goal.returns-in_err-game-clause-cause
returns-in_err-game-clause-cause g c =
    let p = err_from_is_err_and c.from_residual-in_err-game.result c.from_residual-in_err-game.ensures.1 in
    rw (p.1, p.2) (record { later = omega arith; failed = λ unread. c.in_err-game.ensures.cause.failed unread })

pub returns-clause-heard : goal.returns-clause-heard
returns-clause-heard g c =
    heard_then _ _ _ 2 _ _ _ _ _ _ c.in_ok-game.ensures.heard c.read_on.ensures.heard
    (λ lines is. start-there c.args.variants.now lines c.in_ok-game.game is) (start-most c.args.variants.now)
    (λ front rest two is. start-problem-needs c.args.variants.now front rest c.in_ok-game.game two is)
    (λ front rest two is says. says_same _ _ c.read_on.result (start-problem g.G.ReadGoal.said c.args.variants.now front rest c.in_ok-game.game two is) says)
