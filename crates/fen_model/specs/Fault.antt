-- How a fault prints.
use Rattle.std.specs.Prelude.{ℕ, List, codes}
use Rattle.fen_model.specs.declared.fault.FenFault.{FenFault}
use Rattle.fen_model.specs.declared.fault.FenFault.TheVariants.{Length, Rank, Letter, Width, Pocket, Side, Rights, EnPassant, Checks, Counter, Kings, OpponentAttacked, TooMany}

-- the type's name, the fault's number and its name, separated by single blanks
abbrev pub fault_text : FenFault → List ℕ
fault_text Length = codes "FenFault 1 Length"
fault_text Rank = codes "FenFault 2 Rank"
fault_text Letter = codes "FenFault 3 Letter"
fault_text Width = codes "FenFault 4 Width"
fault_text Pocket = codes "FenFault 5 Pocket"
fault_text Side = codes "FenFault 6 Side"
fault_text Rights = codes "FenFault 7 Rights"
fault_text EnPassant = codes "FenFault 8 EnPassant"
fault_text Checks = codes "FenFault 9 Checks"
fault_text Counter = codes "FenFault 10 Counter"
fault_text Kings = codes "FenFault 11 Kings"
fault_text OpponentAttacked = codes "FenFault 12 OpponentAttacked"
fault_text TooMany = codes "FenFault 13 TooMany"
