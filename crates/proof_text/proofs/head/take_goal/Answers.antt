use Rattle.std.proofs.Common.{◌+◌, rules}
use Rattle.proof_text.specs.declared.fault.ProofFault.TheVariants.{Header}
use Rattle.proof_text.specs.Reading.{body_on, goal_on}
use Rattle.proof_text.specs.Words.{goal_said}
use Rattle.proof_text.proofs.ReadingLemmas.{text-bad, text-goes}
use Rattle.proof_text.proofs.head.take_goal.Goals as goal

pub returns-in-Some-clause-reads : goal.returns-in-Some-clause-reads
unfolding goal_on
returns-in-Some-clause-reads g c =
    text-goes (Header c.args.number) goal_said (body_on (c.args.number + 1) c.args.game.now) _ _ c.take_text.new.line c.in_ok-is_there.is_there c.in-Some.goal c.in_ok-is_there.ensures.takes (search rules)

pub returns-in-None-clause-reads : goal.returns-in-None-clause-reads
unfolding goal_on
returns-in-None-clause-reads g c =
    text-bad (Header c.args.number) goal_said (body_on (c.args.number + 1) c.args.game.now) _ _ c.take_text.new.line c.in_ok-is_there.is_there c.in_ok-is_there.ensures.takes (search rules)
