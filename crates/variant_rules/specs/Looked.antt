-- What was read of the file of variants.
use Rattle.std.specs.Prelude.{◌≡◌, ◌≤◌, ◌⊎◌, ℕ, List, [], ◌∷◌, length, Option, Some, None, Result, Ok, Err, ⊤}
use Rattle.io_ports.specs.declared.files.TheConstants.{MAX_FILE}
use Rattle.io_ports.specs.Files.{Found, Bytes, Read}
use Rattle.variant_ini.specs.Section.{Section}
use Rattle.variant_rules.specs.declared.fault.LoadFault.{LoadFault}
use Rattle.variant_rules.specs.declared.fault.NoSections.{NoSections}
use Rattle.variant_rules.specs.declared.fault.NoSections.TheVariants.{Fault, Memory}
use Rattle.variant_rules.specs.Loading.{refusal, sections_with}

-- files were asked for, and this holds of what was found
pub record Looked (asked : List Read → Type 0) (Holds : List Read → Type 0) : Type 0 where
  pub reads : List Read
  pub asks : asked reads
  pub holds : Holds reads

-- one file was read, of this name, and this holds of what was found
pub record OneRead (name : List ℕ) (reads : List Read) (Holds : Found → Type 0) : Type 0 where
  pub found : Found
  pub reads_are : reads ≡ record { name = name; found = found } ∷ []
  pub holds : Holds found

-- the file was read and refused, for this fault
abbrev pub IsRefused : List ℕ → List Read → LoadFault → Type 0
IsRefused name reads fault = OneRead name reads (λ found. refusal found ≡ Some fault)

-- the bytes that were found of the file of this name, or why it is refused; nothing was, where there was no memory
abbrev pub HasFile : List ℕ → List Read → Result (List ℕ) NoSections → Type 0
HasFile name reads (Ok bytes) =
    (reads ≡ record { name = name; found = Bytes bytes } ∷ []) × (length bytes ≤ MAX_FILE)
HasFile name reads (Err (Fault fault)) = IsRefused name reads fault
HasFile name reads (Err Memory) = reads ≡ []

-- The file of this name was read and taken, and the sections are the built-in ones and then its own; or it was refused.
-- Where there was no memory, it was read, or nothing was.
abbrev pub HasSections : List ℕ → List Read → Result (List Section) NoSections → Type 0
HasSections name reads (Ok sections) =
    OneRead name reads (λ found. (refusal found ≡ None) × (sections ≡ sections_with found))
HasSections name reads (Err (Fault fault)) = IsRefused name reads fault
HasSections name reads (Err Memory) = (reads ≡ []) ⊎ OneRead name reads (λ found. ⊤)
