use Rattle.std.proofs.Common.{◌+◌, rules}
use Rattle.proof_text.specs.declared.fault.ProofFault.TheVariants.{Header}
use Rattle.proof_text.specs.Reading.{history_on, moves_on}
use Rattle.proof_text.specs.Words.{history_said}
use Rattle.proof_text.proofs.ReadingLemmas.{text-bad, text-goes}
use Rattle.proof_text.proofs.head.take_history.Goals as goal

pub returns-in-Some-clause-reads : goal.returns-in-Some-clause-reads
unfolding history_on
returns-in-Some-clause-reads g c =
    text-goes (Header c.args.number) history_said (λ count. moves_on count (c.args.number + 1) c.args.game.now) _ _ c.take_text.new.line c.in_ok-is_there.is_there c.in-Some.count c.in_ok-is_there.ensures.takes (search rules)

pub returns-in-None-clause-reads : goal.returns-in-None-clause-reads
unfolding history_on
returns-in-None-clause-reads g c =
    text-bad (Header c.args.number) history_said (λ count. moves_on count (c.args.number + 1) c.args.game.now) _ _ c.take_text.new.line c.in_ok-is_there.is_there c.in_ok-is_there.ensures.takes (search rules)
