use Rattle.std.proofs.Common.{◌+◌, ◌++◌, ◌∷◌, [], arith}
use Rattle.proof_text.specs.declared.fault.ProofFault.TheVariants.{BadRules}
use Rattle.proof_text.specs.Pairs.{pair_said}
use Rattle.proof_text.specs.Reading.{pairs_on}
use Rattle.proof_text.proofs.ReadingLemmas.{reads-text}
use Rattle.proof_text.proofs.pairs.take_pair.Goals as goal

pub returns-clause-reads : goal.returns-clause-reads
unfolding pairs_on
returns-clause-reads g c = λ count pairs.
    reads-text (BadRules c.args.number) pair_said (λ pair. pairs_on count (c.args.number + 1) (pairs ++ pair ∷ [])) _ _ c.take_text.new.line c.in_ok-is_there.is_there _ c.pair_in.result
    c.in_ok-is_there.ensures.takes c.text_if.ensures c.pair_in.ensures.says c.pair_in.ensures.heard

pub returns-clause-cause : goal.returns-clause-cause
returns-clause-cause g c = record { later = omega arith; failed = λ unread. absurd (c.pair_in.ensures.heard unread) }
