use Rattle.std.proofs.Common.{arith, refl, subst, sym}
use Rattle.std.proofs.lemmas.Int.{ints}
use Rattle.game_line.specs.Lined.{story_of_line}
use Rattle.negamax.specs.RootFacts.{IsTrueFact, score_of}
use Rattle.negamax.specs.Windows.{Bounds}
use Rattle.negamax.proofs.HaltLaws.{halted}
use Rattle.negamax.proofs.WindowLaws.{reframe}
use Rattle.negamax.proofs.root.search_move.Goals as goal

pub fact_of-requires-clause-bounds : goal.fact_of-requires-clause-bounds
fact_of-requires-clause-bounds g c =
    let told = c.in_ok-score.ensures in
    let least = told.within.least in let most = told.within.most in
    reframe _ _ _ _ _ _ _
    (subst (λ l. Bounds c.args.window.alpha c.args.window.beta c.in_ok-score.score (score_of l.rules c.args.depth c.args.ply (story_of_line l) c.args.chosen.now)) (sym told.kept) told.bounds)
    refl refl (omega (arith, ints))

pub returns-clause-fact : goal.returns-clause-fact
returns-clause-fact g c =
    subst (λ l. IsTrueFact l.rules c.args.depth c.args.ply (story_of_line l) c.fact_of.result) c.in_ok-score.ensures.kept c.fact_of.ensures.fact

pub returns-in_err-score-clause-ended : goal.returns-in_err-score-clause-ended
returns-in_err-score-clause-ended g c why is =
    c.score_move.ensures.ended why (halted c.score_move.result c.from_residual.result _ why c.in_err-score.was c.from_residual.ensures.1 is)
