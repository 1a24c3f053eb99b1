-- How the fault of a game text prints: the type's name, the fault's number, its name and its fields, separated by
-- single blanks. A fault inside a fault prints whole.
use Rattle.std.specs.Prelude.{ℕ, List, ◌++◌, codes}
use Rattle.std.specs.Fmt.{decimal}
use Rattle.fen_model.specs.Fault as fen
use Rattle.variant_model.specs.Fault as section
use Rattle.game_text.specs.declared.fault.GameFault.{GameFault}
use Rattle.game_text.specs.declared.fault.GameFault.TheVariants.{Missing, UnknownVariant, RefusedVariant, BadPosition, BadMove, TooManyMoves, BadGoal, LineTooLong}

abbrev pub fault_text : GameFault → List ℕ
fault_text (Missing line) = codes "GameFault 1 Missing " ++ decimal line
fault_text (UnknownVariant name) = codes "GameFault 2 UnknownVariant " ++ name
fault_text (RefusedVariant why) = codes "GameFault 3 RefusedVariant " ++ section.fault_text why
fault_text (BadPosition why) = codes "GameFault 4 BadPosition " ++ fen.fault_text why
fault_text (BadMove number text) = codes "GameFault 5 BadMove " ++ decimal number ++ codes " " ++ text
fault_text TooManyMoves = codes "GameFault 6 TooManyMoves"
fault_text (BadGoal line) = codes "GameFault 7 BadGoal " ++ decimal line
fault_text (LineTooLong line) = codes "GameFault 8 LineTooLong " ++ decimal line
