use Rattle.std.proofs.Common.{◌∙◌, sym, arith}
use Rattle.std.proofs.lemmas.Int.{ints}
use Rattle.game_line.specs.Lined.{story_of_line}
use Rattle.evaluation.specs.Values.{play}
use Rattle.evaluation.proofs.GamesByRules.{play_laws}
use Rattle.evaluation.proofs.ScoreLaws.{quiet-ended}
use Rattle.negamax.proofs.NodeLaws.{is_none, quiet_within, quiet_zero}
use Rattle.negamax.proofs.ends.resting.Goals as goal

pub returns-in-Some-clause-is : goal.returns-in-Some-clause-is
returns-in-Some-clause-is c =
    let is = quiet-ended (play c.args.line.now.rules) 0 c.args.ply (story_of_line c.args.line.now) _ (sym c.end_of.ensures ∙ c.in-Some.is) in
    omega (arith, ints, is)

pub returns-in-Some-clause-within : goal.returns-in-Some-clause-within
returns-in-Some-clause-within c =
    let is = quiet-ended (play c.args.line.now.rules) 0 c.args.ply (story_of_line c.args.line.now) _ (sym c.end_of.ensures ∙ c.in-Some.is) in
    let within = quiet_within (play c.args.line.now.rules) (play_laws c.args.line.now.rules) 0 c.args.ply (story_of_line c.args.line.now) in
    let least = within.least in let most = within.most in
    record { least = omega (arith, ints, is); most = omega (arith, ints, is) }

pub returns-in-None-clause-is : goal.returns-in-None-clause-is
returns-in-None-clause-is c =
    let is = quiet_zero (play c.args.line.now.rules) c.args.ply (story_of_line c.args.line.now) (sym c.end_of.ensures ∙ c.in-None.is) in
    let glance = c.requires in
    omega (arith, ints, is, glance)

pub returns-in-None-clause-within : goal.returns-in-None-clause-within
returns-in-None-clause-within c =
    let is = quiet_zero (play c.args.line.now.rules) c.args.ply (story_of_line c.args.line.now) (sym c.end_of.ensures ∙ c.in-None.is) in
    let glance = c.requires in
    let within = quiet_within (play c.args.line.now.rules) (play_laws c.args.line.now.rules) 0 c.args.ply (story_of_line c.args.line.now) in
    let least = within.least in let most = within.most in
    record { least = omega (arith, ints, is, glance); most = omega (arith, ints, is, glance) }
