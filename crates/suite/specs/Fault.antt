-- How the fault of a suite prints: the type's name, the fault's number, its name and its fields, separated by single
-- blanks. A fault inside a fault prints whole.
use Rattle.std.specs.Prelude.{ℕ, List, ◌++◌, codes}
use Rattle.std.specs.Fmt.{decimal}
use Rattle.fen_model.specs.Fault as fen
use Rattle.variant_model.specs.Fault as section
use Rattle.suite.specs.declared.fault.SuiteFault.{SuiteFault}
use Rattle.suite.specs.declared.fault.SuiteFault.TheVariants.{BadLine, UnknownVariant, RefusedVariant, BadPosition, NearCount, TooMany, LineTooLong}

abbrev pub fault_text : SuiteFault → List ℕ
fault_text (BadLine line) = codes "SuiteFault 1 BadLine " ++ decimal line
fault_text (UnknownVariant line) = codes "SuiteFault 2 UnknownVariant " ++ decimal line
fault_text (RefusedVariant line why) =
    codes "SuiteFault 3 RefusedVariant " ++ decimal line ++ codes " " ++ section.fault_text why
fault_text (BadPosition line why) = codes "SuiteFault 4 BadPosition " ++ decimal line ++ codes " " ++ fen.fault_text why
fault_text (NearCount line) = codes "SuiteFault 5 NearCount " ++ decimal line
fault_text (TooMany line) = codes "SuiteFault 6 TooMany " ++ decimal line
fault_text (LineTooLong line) = codes "SuiteFault 7 LineTooLong " ++ decimal line
