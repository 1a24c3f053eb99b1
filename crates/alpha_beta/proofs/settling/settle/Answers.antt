use Rattle.std.proofs.Common.{◌∙◌, sym, arith}
use Rattle.std.specs.Prelude.{pos, negsuc}
use Rattle.std.proofs.lemmas.Int.{ints, clamps}
use Rattle.game_line.specs.Lined.{story_of_line}
use mir.Val.{to_z, of_z}
use mir.Syntax.{w32}
use Rattle.negamax.proofs.HaltLaws.{halted}
use Rattle.negamax.proofs.RootLaws.{settles_asked}
use Rattle.negamax.proofs.WindowLaws.{reframe}
use Rattle.alpha_beta.proofs.settling.settle.Goals as goal

pub returns-in_err-score-clause-ended : goal.returns-in_err-score-clause-ended
returns-in_err-score-clause-ended g c why is =
    c.score_in.ensures.ended why (halted c.score_in.result c.from_residual.result _ why c.in_err-score.was c.from_residual.ensures.1 is)

pub better_of-requires : goal.better_of-requires
better_of-requires g c =
    let l = c.requires.within.least in let u = c.requires.within.most in
    let is = c.above-asked.ensures.alpha in
    record { low = omega (arith, ints, clamps) }

pub returns-clause-settles : goal.returns-clause-settles
returns-clause-settles g c =
    let told = c.in_ok-score.ensures in let asked = c.above-asked.result in
    let l1 = c.requires.within.least in let u1 = c.requires.within.most in let l2 = told.within.least in let u2 = told.within.most in
    let floor = asked.floor in let wide = asked.wide in let roof = asked.roof in
    let is = c.above-asked.ensures.alpha in let unbounded = c.open-window.ensures.alpha in let value = c.better_of.ensures.value in
    settles_asked c.args.line.now.rules c.args.depth 0 (story_of_line c.args.line.now) (negsuc 32001) (pos 32002) c.args.chosen.now
    c.args.best c.better_of.result (to_z w32 (of_z w32 asked.alpha)) (to_z w32 (of_z w32 c.in_ok-score.score)) c.requires.within
    (record { least = omega (arith, ints); most = omega (arith, ints) }) (omega (arith, ints, clamps, is, unbounded))
    (reframe _ _ _ _ _ _ _ told.bounds (omega (arith, ints)) (sym (c.above-asked.ensures.beta ∙ c.open-window.ensures.beta)) (omega (arith, ints)))
    (omega (arith, ints, clamps, value)) c.better_of.ensures.chosen
