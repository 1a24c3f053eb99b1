-- How a fault prints, and which one a call answers.
use Rattle.std.specs.Prelude.{◌≡◌, ℕ, List, ◌++◌, codes, Result, Err, ⊤}
use Rattle.std.specs.Fmt.{decimal}
use Rattle.cert_text.specs.declared.fault.CertFault.{CertFault}
use Rattle.cert_text.specs.declared.fault.CertFault.TheVariants.{BadLine, Ended, Memory}

-- the type's name, the fault's number, its name and its line, separated by single blanks
abbrev pub fault_text : CertFault → List ℕ
fault_text (BadLine line) = codes "CertFault 1 BadLine " ++ decimal line
fault_text (Ended line) = codes "CertFault 2 Ended " ++ decimal line
fault_text Memory = codes "CertFault Memory"

-- an error of a call is the fault of the definition, or out of memory
abbrev pub IsFaultOrMemory : {A : Type 0} → Result A CertFault → CertFault → Type 0
IsFaultOrMemory said (BadLine line) = said ≡ Err (BadLine line)
IsFaultOrMemory said (Ended line) = said ≡ Err (Ended line)
IsFaultOrMemory said Memory = ⊤
