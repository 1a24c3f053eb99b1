-- How a fault prints, which one a call answers, and how one of the strategy counts its lines in the whole text.
use Rattle.std.specs.Prelude.{◌≡◌, ◌⊎◌, ℕ, ◌+◌, ◌^◌, ◌≤◌, List, ◌++◌, codes, Result, Err, ⊤}
use Rattle.std.specs.Fmt.{decimal}
use Rattle.fen_model.specs.Fault as fen
use Rattle.strategy.specs.declared.fault.StrategyFault.{StrategyFault}
use Rattle.strategy.specs.declared.fault.StrategyFault.TheVariants as body
use Rattle.strategy.specs.Fault as strategy
use Rattle.variant_model.specs.Fault as section
use Rattle.proof_text.specs.declared.fault.ProofFault.{ProofFault}
use Rattle.proof_text.specs.declared.fault.ProofFault.TheVariants.{Header, BadRules, RefusedRules, BadStart, BadHistory, BadBody, Memory}

-- the type's name, the fault's number, its name and its fields, separated by single blanks; a fault inside prints whole
abbrev pub fault_text : ProofFault → List ℕ
fault_text (Header line) = codes "ProofFault 1 Header " ++ decimal line
fault_text (BadRules line) = codes "ProofFault 2 BadRules " ++ decimal line
fault_text (RefusedRules why) = codes "ProofFault 3 RefusedRules " ++ section.fault_text why
fault_text (BadStart line why) = codes "ProofFault 4 BadStart " ++ decimal line ++ codes " " ++ fen.fault_text why
fault_text (BadHistory line) = codes "ProofFault 5 BadHistory " ++ decimal line
fault_text (BadBody why) = codes "ProofFault 6 BadBody " ++ strategy.fault_text why
fault_text Memory = codes "ProofFault Memory"

-- an error of a call is the fault of the definition, or out of memory
abbrev pub IsFaultOrMemory : {A : Type 0} → Result A ProofFault → ProofFault → Type 0
IsFaultOrMemory said (Header line) = said ≡ Err (Header line)
IsFaultOrMemory said (BadRules line) = said ≡ Err (BadRules line)
IsFaultOrMemory said (RefusedRules why) = said ≡ Err (RefusedRules why)
IsFaultOrMemory said (BadStart line why) = said ≡ Err (BadStart line why)
IsFaultOrMemory said (BadHistory line) = said ≡ Err (BadHistory line)
IsFaultOrMemory said (BadBody why) = said ≡ Err (BadBody why)
IsFaultOrMemory said Memory = ⊤

-- the same fault this many lines further down
abbrev pub moved_down : ℕ → StrategyFault → StrategyFault
moved_down lines (body.Header line) = body.Header (line + lines)
moved_down lines (body.BadLine line) = body.BadLine (line + lines)
moved_down lines (body.BadPosition line why) = body.BadPosition (line + lines) why
moved_down lines (body.BadMove line) = body.BadMove (line + lines)
moved_down lines (body.BadNumber line) = body.BadNumber (line + lines)
moved_down lines (body.Ended line) = body.Ended (line + lines)
moved_down lines body.Memory = body.Memory

-- the line that the fault names; 0 where it names none
abbrev pub line_in : StrategyFault → ℕ
line_in (body.Header line) = line
line_in (body.BadLine line) = line
line_in (body.BadPosition line why) = line
line_in (body.BadMove line) = line
line_in (body.BadNumber line) = line
line_in (body.Ended line) = line
line_in body.Memory = 0

-- the fault of a text whose strategy has this fault: out of memory where that is, or where no line has so great a
-- number
abbrev pub HasBodyFault : ℕ → StrategyFault → ProofFault → Type 0
HasBodyFault lines fault Memory = (fault ≡ body.Memory) ⊎ (2 ^ 64 ≤ line_in fault + lines)
HasBodyFault lines fault (BadBody moved) = (moved ≡ moved_down lines fault) × (fault ≡ body.Memory → ⊥)
HasBodyFault lines fault (Header line) = ⊥
HasBodyFault lines fault (BadRules line) = ⊥
HasBodyFault lines fault (RefusedRules why) = ⊥
HasBodyFault lines fault (BadStart line why) = ⊥
HasBodyFault lines fault (BadHistory line) = ⊥
