-- Faults that are handed on.
use Rattle.std.proofs.Common.{◌≡◌, Result, Err}
use Rattle.proof_text.specs.declared.fault.ProofFault.{ProofFault}
use Rattle.proof_text.specs.declared.fault.ProofFault.TheVariants.{Header, BadRules, RefusedRules, BadStart, BadHistory, BadBody, Memory}
use Rattle.proof_text.specs.Fault.{IsFaultOrMemory}

-- where one fault is the other, so are the errors
pub fault-so : {A B : Type 0} (r : Result A ProofFault) (s : Result B ProofFault) → ((e : ProofFault) → r ≡ Err e → s ≡ Err e) → (e : ProofFault) → IsFaultOrMemory r e → IsFaultOrMemory s e
fault-so r s so Memory is = tt
fault-so r s so (Header line) is = so (Header line) is
fault-so r s so (BadRules line) is = so (BadRules line) is
fault-so r s so (RefusedRules why) is = so (RefusedRules why) is
fault-so r s so (BadStart line why) is = so (BadStart line why) is
fault-so r s so (BadHistory line) is = so (BadHistory line) is
fault-so r s so (BadBody why) is = so (BadBody why) is

pub fault-is : {A : Type 0} (r : Result A ProofFault) (e : ProofFault) → r ≡ Err e → IsFaultOrMemory r e
fault-is r Memory is = tt
fault-is r (Header line) is = is
fault-is r (BadRules line) is = is
fault-is r (RefusedRules why) is = is
fault-is r (BadStart line why) is = is
fault-is r (BadHistory line) is = is
fault-is r (BadBody why) is = is
