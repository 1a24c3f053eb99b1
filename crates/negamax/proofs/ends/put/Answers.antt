use Rattle.std.proofs.Common.{ap, ◌∙◌, subst, sym}
use Rattle.evaluation.specs.Tallies.{IsTally}
use Rattle.game_line.specs.Lined.{story_of_line}
use Rattle.game_line.proofs.LineLaws.{story-pushed}
use Rattle.negamax.proofs.ends.put.Goals as goal

pub returns-clause-story : goal.returns-clause-story
returns-clause-story c = ap story_of_line c.push.ensures ∙ story-pushed c.args.line.now c.args.m.now

pub returns-clause-sums : goal.returns-clause-sums
returns-clause-sums c sums told =
    let after = subst (λ g. IsTally c.args.line.now.rules g.last sums) (sym (story-pushed c.args.line.now c.args.m.now)) told in
    subst (λ l. IsTally l.rules (story_of_line l).last sums) (sym c.push.ensures) after
