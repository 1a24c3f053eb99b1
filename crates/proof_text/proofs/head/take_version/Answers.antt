use Rattle.std.proofs.Common.{rules}
use Rattle.proof_text.specs.declared.fault.ProofFault.TheVariants.{Header}
use Rattle.proof_text.specs.Reading.{proof_on, rules_on, version_said}
use Rattle.proof_text.proofs.ReadingLemmas.{text-bad, text-goes}
use Rattle.proof_text.proofs.head.take_version.Goals as goal

pub returns-in-Some-clause-reads : goal.returns-in-Some-clause-reads
unfolding proof_on
returns-in-Some-clause-reads g c =
    text-goes (Header 1) version_said (λ version. rules_on) _ _ c.take_text.new.line c.in_ok-is_there.is_there c.in-Some.field-0 c.in_ok-is_there.ensures.takes (search rules)

pub returns-in-None-clause-reads : goal.returns-in-None-clause-reads
unfolding proof_on
returns-in-None-clause-reads g c =
    text-bad (Header 1) version_said (λ version. rules_on) _ _ c.take_text.new.line c.in_ok-is_there.is_there c.in_ok-is_there.ensures.takes (search rules)
