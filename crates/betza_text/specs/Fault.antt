-- how a fault prints
use Rattle.std.specs.Prelude.{ℕ, List, ◌++◌, codes, decimal}
use Rattle.betza_text.specs.declared.fault.BetzaFault.{BetzaFault}
use Rattle.betza_text.specs.declared.fault.BetzaFault.TheVariants.{Empty, TooLong, UnknownAtom, UnsupportedModifier, DoubledModifier, AmbiguousDirection, BadLame, BadHopper, BadNumber, TooManyTerms, Memory}

-- the type's name, the fault's number, its name and its place, parted by single blanks
abbrev pub fault_text : BetzaFault → List ℕ
fault_text (Empty place) = codes "BetzaFault 1 Empty " ++ decimal place
fault_text (TooLong place) = codes "BetzaFault 2 TooLong " ++ decimal place
fault_text (UnknownAtom place) = codes "BetzaFault 3 UnknownAtom " ++ decimal place
fault_text (UnsupportedModifier place) = codes "BetzaFault 4 UnsupportedModifier " ++ decimal place
fault_text (DoubledModifier place) = codes "BetzaFault 5 DoubledModifier " ++ decimal place
fault_text (AmbiguousDirection place) = codes "BetzaFault 6 AmbiguousDirection " ++ decimal place
fault_text (BadLame place) = codes "BetzaFault 7 BadLame " ++ decimal place
fault_text (BadHopper place) = codes "BetzaFault 8 BadHopper " ++ decimal place
fault_text (BadNumber place) = codes "BetzaFault 9 BadNumber " ++ decimal place
fault_text (TooManyTerms place) = codes "BetzaFault 10 TooManyTerms " ++ decimal place
fault_text Memory = codes "BetzaFault Memory"
