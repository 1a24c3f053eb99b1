use Rattle.std.proofs.lemmas.Result.{err_from_is_err_and}
use Rattle.std.proofs.Common.{arith}
use Rattle.game_text.proofs.HeardLemmas.{heard_so, heard_then}
use Rattle.game_text.proofs.ReadLemmas.{says_fault, says_told}
use Rattle.game_text.proofs.ProblemLemmas.{first-line, moves-there, on-bad, on-faulty, on-first, on-goal, on-needs}
use Rattle.game_text.proofs.problem.read_on.Goals as goal

pub returns-in_err-read_line_of_moves-clause-heard : goal.returns-in_err-read_line_of_moves-clause-heard
returns-in_err-read_line_of_moves-clause-heard g c =
    let p = err_from_is_err_and c.from_residual.result c.from_residual.ensures.1 in
    rw (p.1, p.2) (heard_so _ _ _ _ _ _ c.in_err-read_line_of_moves.ensures.heard (on-first c.args.game)
    (λ lines says. says_fault _ _ c.in_err-read_line_of_moves.field-0.0 (on-faulty g.G.ReadGoal.said c.args.game lines) (says_told _ c.read_line_of_moves.new.game c.in_err-read_line_of_moves.field-0.0 says)))

pub returns-in_err-read_line_of_moves-clause-cause : goal.returns-in_err-read_line_of_moves-clause-cause
returns-in_err-read_line_of_moves-clause-cause g c =
    let p = err_from_is_err_and c.from_residual.result c.from_residual.ensures.1 in
    rw (p.1, p.2) (record { later = omega arith; failed = λ unread. c.in_err-read_line_of_moves.ensures.cause.failed unread })

pub returns-in_err-goal-clause-heard : goal.returns-in_err-goal-clause-heard
returns-in_err-goal-clause-heard g c =
    let p = err_from_is_err_and c.from_residual-in_err-goal.result c.from_residual-in_err-goal.ensures.1 in
    rw (p.1, p.2) (heard_then _ _ _ 1 _ _ _ _ _ _ c.in_ok-read_line_of_moves.ensures.heard c.in_err-goal.ensures.heard
    (λ lines is. moves-there c.args.game c.read_line_of_moves.new.game lines is) first-line
    (λ front rest one is. on-needs c.args.game c.read_line_of_moves.new.game front rest one is)
    (λ front rest one is says. says_fault _ _ c.in_err-goal.field-0.0 (λ fault bad. on-bad g.G.ReadGoal.said c.args.game c.read_line_of_moves.new.game front rest fault one is bad) says))

pub returns-in_err-goal-clause-cause : goal.returns-in_err-goal-clause-cause
returns-in_err-goal-clause-cause g c =
    let p = err_from_is_err_and c.from_residual-in_err-goal.result c.from_residual-in_err-goal.ensures.1 in
    rw (p.1, p.2) (record { later = omega arith; failed = λ unread. let rose = c.in_err-goal.ensures.cause.failed unread in let later = c.in_ok-read_line_of_moves.ensures.cause.later in omega (arith, rose, later) })

pub returns-clause-heard : goal.returns-clause-heard
returns-clause-heard g c =
    heard_then _ _ _ 1 _ _ _ _ _ _ c.in_ok-read_line_of_moves.ensures.heard c.in_ok-goal.ensures.heard
    (λ lines is. moves-there c.args.game c.read_line_of_moves.new.game lines is) first-line
    (λ front rest one is. on-needs c.args.game c.read_line_of_moves.new.game front rest one is)
    (λ front rest one is says. on-goal g.G.ReadGoal.said c.args.game c.read_line_of_moves.new.game front rest c.in_ok-goal.goal one is says)
