use Rattle.std.proofs.Common.{[], rules}
use Rattle.proof_text.specs.declared.fault.ProofFault.TheVariants.{Header}
use Rattle.proof_text.specs.Reading.{pairs_on, rules_on}
use Rattle.proof_text.specs.Words.{rules_said}
use Rattle.proof_text.proofs.ReadingLemmas.{text-bad, text-goes}
use Rattle.proof_text.proofs.head.take_rules.Goals as goal

pub returns-in-Some-clause-reads : goal.returns-in-Some-clause-reads
unfolding rules_on
returns-in-Some-clause-reads g c =
    text-goes (Header 2) rules_said (λ count. pairs_on count 3 []) _ _ c.take_text.new.line c.in_ok-is_there.is_there c.in-Some.count c.in_ok-is_there.ensures.takes (search rules)

pub returns-in-None-clause-reads : goal.returns-in-None-clause-reads
unfolding rules_on
returns-in-None-clause-reads g c =
    text-bad (Header 2) rules_said (λ count. pairs_on count 3 []) _ _ c.take_text.new.line c.in_ok-is_there.is_there c.in_ok-is_there.ensures.takes (search rules)
