use Rattle.std.proofs.Common.{◌≡◌, Ok, List, ℕ, subst}
use Rattle.std.specs.Prelude.{Result}
use Rattle.io_ports.specs.Lines.{lines_of}
use Rattle.proof_text.specs.declared.fault.ProofFault.{ProofFault}
use Rattle.proof_text.specs.declared.proof.Proof.{Proof}
use Rattle.proof_text.specs.Fault.{IsFaultOrMemory}
use Rattle.proof_text.specs.Reading.{proof_of, proof_on}
use Rattle.proof_text.specs.declared.source_lines.NoProof.{NoProof}
use Rattle.proof_text.specs.TakingView.{HasWhy}
use Rattle.proof_text.proofs.ReadingLemmas.{text-heard}
use Rattle.proof_text.proofs.reading.read_proof.Goals as goal

pub returns-in-Ok-clause-answer : goal.returns-in-Ok-clause-answer
returns-in-Ok-clause-answer c =
    subst (λ (text : List ℕ). proof_of (lines_of text) ≡ Ok c.in-Ok.proof) c.new-source.ensures
    (text-heard _ _ proof_on (λ (said : Result Proof ProofFault). said ≡ Ok c.in-Ok.proof) c.in-Ok.ensures.heard)

pub returns-in-Err-Faulty-clause-answer : goal.returns-in-Err-Faulty-clause-answer
returns-in-Err-Faulty-clause-answer c =
    let says = text-heard _ _ proof_on (λ (said : Result Proof ProofFault). HasWhy said c.in-Err-Faulty.field-0) c.in-Err-Faulty.ensures.heard in
    subst (λ (text : List ℕ). IsFaultOrMemory (proof_of (lines_of text)) c.in-Err-Faulty.fault) c.new-source.ensures
    (subst (λ (why : NoProof). HasWhy (proof_of (lines_of c.new-source.result.rest.now)) why) c.in-Err-Faulty.field-0-is says)
