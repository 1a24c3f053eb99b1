-- How the fault of a section prints.
use Rattle.std.specs.Prelude.{ℕ, List, [], ◌∷◌, ◌++◌, codes, decimal, encode_utf8_all}
use Rattle.betza_text.specs.Fault as betza
use Rattle.fen_model.specs.Fault as fen
use Rattle.rules_model.specs.MoveText.{lower}
use Rattle.variant_model.specs.declared.fault.SectionFault.{SectionFault}
use Rattle.variant_model.specs.declared.fault.SectionFault.TheVariants.{DuplicateName, UnknownParent, RefusedParent, UnsupportedOption, BadValue, BadPiece, LetterTwice, BadStart, Inconsistent}

-- the characters of a key's bytes, which for ASCII are the bytes
abbrev pub key_text : List ℕ → List ℕ
key_text key = encode_utf8_all key

-- the type's name, the fault's number, its name and its fields, separated by single blanks. A fault inside a fault
-- prints whole
abbrev pub fault_text : SectionFault → List ℕ
fault_text DuplicateName = codes "SectionFault 1 DuplicateName"
fault_text UnknownParent = codes "SectionFault 2 UnknownParent"
fault_text RefusedParent = codes "SectionFault 3 RefusedParent"
fault_text (UnsupportedOption key) = codes "SectionFault 4 UnsupportedOption " ++ key_text key
fault_text (BadValue key) = codes "SectionFault 5 BadValue " ++ key_text key
fault_text (BadPiece key fault) =
    codes "SectionFault 6 BadPiece " ++ key_text key ++ codes " " ++ betza.fault_text fault
fault_text (LetterTwice kind) = codes "SectionFault 7 LetterTwice " ++ lower kind ∷ []
fault_text (BadStart fault) = codes "SectionFault 8 BadStart " ++ fen.fault_text fault
fault_text (Inconsistent number) = codes "SectionFault 9 Inconsistent " ++ decimal number
