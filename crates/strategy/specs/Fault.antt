-- How a fault prints, and which one a call answers.
use Rattle.std.specs.Prelude.{◌≡◌, ℕ, List, ◌++◌, codes, Result, Err, ⊤}
use Rattle.std.specs.Fmt.{decimal}
use Rattle.fen_model.specs.Fault as fen
use Rattle.strategy.specs.declared.fault.StrategyFault.{StrategyFault}
use Rattle.strategy.specs.declared.fault.StrategyFault.TheVariants.{Header, BadLine, BadPosition, BadMove, BadNumber, Ended, Memory}

-- the type's name, the fault's number, its name and its fields, separated by single blanks; a fault inside prints whole
abbrev pub fault_text : StrategyFault → List ℕ
fault_text (Header line) = codes "StrategyFault 1 Header " ++ decimal line
fault_text (BadLine line) = codes "StrategyFault 2 BadLine " ++ decimal line
fault_text (BadPosition line fault) =
    codes "StrategyFault 3 BadPosition " ++ decimal line ++ codes " " ++ fen.fault_text fault
fault_text (BadMove line) = codes "StrategyFault 4 BadMove " ++ decimal line
fault_text (BadNumber line) = codes "StrategyFault 5 BadNumber " ++ decimal line
fault_text (Ended line) = codes "StrategyFault 6 Ended " ++ decimal line
fault_text Memory = codes "StrategyFault Memory"

-- an error of a call is the fault of the definition, or out of memory
abbrev pub IsFaultOrMemory : {A : Type 0} → Result A StrategyFault → StrategyFault → Type 0
IsFaultOrMemory said (Header line) = said ≡ Err (Header line)
IsFaultOrMemory said (BadLine line) = said ≡ Err (BadLine line)
IsFaultOrMemory said (BadPosition line fault) = said ≡ Err (BadPosition line fault)
IsFaultOrMemory said (BadMove line) = said ≡ Err (BadMove line)
IsFaultOrMemory said (BadNumber line) = said ≡ Err (BadNumber line)
IsFaultOrMemory said (Ended line) = said ≡ Err (Ended line)
IsFaultOrMemory said Memory = ⊤
