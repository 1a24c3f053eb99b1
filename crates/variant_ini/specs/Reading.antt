-- What a variants file says as a whole, and its first fault.
use Rattle.std.specs.Prelude.{◌≡◌, ℕ, ◌+◌, ◌==◌, nat_lt, List, [], ◌∷◌, ◌++◌, Option, None, Some, if◌then◌else◌, length, map}
use Rattle.variant_ini.specs.declared.key_line.KeyLine.{KeyLine}
use Rattle.variant_ini.specs.declared.fault.IniFault.{IniFault}
use Rattle.variant_ini.specs.declared.fault.IniFault.TheVariants.{TooLarge, NotAscii, LineTooLong, NoSection, BadLine, TooManySections, Memory}
use Rattle.variant_ini.specs.Cuts.{cut_lines}
use Rattle.variant_ini.specs.LineKind.{LineKind, comment, foreign, header, pair, bad, line_kind}
use Rattle.variant_ini.specs.Section.{Section, key_line}

-- the pairs up to the next header
abbrev pub pairs_of : List LineKind → List KeyLine
pairs_of [] = []
pairs_of (header name parent ∷ rest) = []
pairs_of (pair key value ∷ rest) = key_line key value ∷ pairs_of rest
pairs_of (comment ∷ rest) = pairs_of rest
pairs_of (foreign ∷ rest) = pairs_of rest
pairs_of (bad ∷ rest) = pairs_of rest

-- a section for each header, with the pairs that follow it
unfoldable pub sections_of : List LineKind → List Section
sections_of [] = []
sections_of (header name parent ∷ rest) =
    record { name = name; parent = parent; lines = pairs_of rest } ∷ sections_of rest
sections_of (pair key value ∷ rest) = sections_of rest
sections_of (comment ∷ rest) = sections_of rest
sections_of (foreign ∷ rest) = sections_of rest
sections_of (bad ∷ rest) = sections_of rest

-- the fault of what a line says, by the line's number and how many sections of the file stand above it
abbrev pub kind_fault : ℕ → ℕ → LineKind → Option IniFault
kind_fault number above comment = None
kind_fault number above foreign = Some (NotAscii number)
kind_fault number above (header name parent) = if nat_lt above 512 then None else Some (TooManySections number)
kind_fault number above (pair key value) = if above == 0 then Some (NoSection number) else None
kind_fault number above bad = Some (BadLine number)

-- the fault of a line, its length before what it says
abbrev pub numbered_fault : ℕ → ℕ → List ℕ → Option IniFault
numbered_fault number above line =
    if nat_lt 1024 (length line) then Some (LineTooLong number) else kind_fault number above (line_kind line)

-- the sections of some lines
unfoldable pub sections_in_lines : List (List ℕ) → List Section
sections_in_lines lines = sections_of (map line_kind lines)

-- the fault of a line that stands below others; the first line of a file has number 1
abbrev pub line_fault : List (List ℕ) → List ℕ → Option IniFault
line_fault above line = numbered_fault (length above + 1) (length (sections_in_lines above)) line

abbrev pub first_of : Option IniFault → Option IniFault → Option IniFault
first_of (Some fault) later = Some fault
first_of None later = later

-- the fault of the first faulty line among those below others
unfoldable pub first_fault : List (List ℕ) → List (List ℕ) → Option IniFault
first_fault above [] = None
first_fault above (line ∷ rest) = first_of (line_fault above line) (first_fault (above ++ line ∷ []) rest)

-- the first fault of a file
unfoldable pub fault_of : List ℕ → Option IniFault
fault_of bytes = if nat_lt 1048576 (length bytes) then Some TooLarge else first_fault [] (cut_lines bytes)

-- the sections of a file, in their order
unfoldable pub sections_in : List ℕ → List Section
sections_in bytes = sections_in_lines (cut_lines bytes)

-- an error is being out of memory, or the fault
abbrev pub IsFaultOrMemory : Option IniFault → IniFault → Type 0
IsFaultOrMemory fault Memory = Unit {0}
IsFaultOrMemory fault TooLarge = fault ≡ Some TooLarge
IsFaultOrMemory fault (NotAscii number) = fault ≡ Some (NotAscii number)
IsFaultOrMemory fault (LineTooLong number) = fault ≡ Some (LineTooLong number)
IsFaultOrMemory fault (NoSection number) = fault ≡ Some (NoSection number)
IsFaultOrMemory fault (BadLine number) = fault ≡ Some (BadLine number)
IsFaultOrMemory fault (TooManySections number) = fault ≡ Some (TooManySections number)
