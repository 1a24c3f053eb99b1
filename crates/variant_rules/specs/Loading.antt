-- The file of variants: its faults, and the sections that there are with it.
use Rattle.std.specs.Prelude.{ℕ, nat_lt, List, [], ◌++◌, length, codes, Option, Some, option_map, if◌then◌else◌}
use Rattle.std.specs.Fmt.{decimal}
use Rattle.io_ports.specs.declared.files.TheConstants.{MAX_FILE}
use Rattle.io_ports.specs.Files.{Found, Bytes, Missing, TooLarge, Fault}
use Rattle.variant_ini.specs.declared.fault.IniFault.{IniFault}
use Rattle.variant_ini.specs.declared.fault.IniFault.TheVariants as ini
use Rattle.variant_ini.specs.Reading.{fault_of, sections_in}
use Rattle.variant_ini.specs.Section.{Section}
use Rattle.variant_model.specs.Builtin.{builtin_sections}
use Rattle.variant_rules.specs.declared.fault.FileFault.{FileFault}
use Rattle.variant_rules.specs.declared.fault.FileFault.TheVariants as file
use Rattle.variant_rules.specs.declared.fault.LoadFault.{LoadFault}
use Rattle.variant_rules.specs.declared.fault.LoadFault.TheVariants.{File, Ini}

-- ---- how its faults print

abbrev pub file_fault_text : FileFault → List ℕ
file_fault_text file.Missing = codes "FileFault 1 Missing"
file_fault_text file.TooLarge = codes "FileFault 2 TooLarge"
file_fault_text file.Failed = codes "FileFault 3 Failed"

abbrev pub ini_fault_text : IniFault → List ℕ
ini_fault_text ini.TooLarge = codes "IniFault 1 TooLarge"
ini_fault_text (ini.NotAscii line) = codes "IniFault 2 NotAscii " ++ decimal line
ini_fault_text (ini.LineTooLong line) = codes "IniFault 3 LineTooLong " ++ decimal line
ini_fault_text (ini.NoSection line) = codes "IniFault 4 NoSection " ++ decimal line
ini_fault_text (ini.BadLine line) = codes "IniFault 5 BadLine " ++ decimal line
ini_fault_text (ini.TooManySections line) = codes "IniFault 6 TooManySections " ++ decimal line
ini_fault_text ini.Memory = codes "IniFault Memory"

abbrev pub load_fault_text : LoadFault → List ℕ
load_fault_text (File fault) = file_fault_text fault
load_fault_text (Ini fault) = ini_fault_text fault

-- ---- what is found of it

-- why what was found is refused: there is no file, it has too many bytes, however they came, it was not read, or its
-- first faulty line
abbrev pub refusal : Found → Option LoadFault
refusal (Bytes bytes) =
    if nat_lt MAX_FILE (length bytes) then Some (File file.TooLarge) else option_map Ini (fault_of bytes)
refusal Missing = Some (File file.Missing)
refusal TooLarge = Some (File file.TooLarge)
refusal Fault = Some (File file.Failed)

-- its text
abbrev pub found_fault : Found → Option (List ℕ)
found_fault found = option_map load_fault_text (refusal found)

-- the sections of what was found
abbrev pub found_sections : Found → List Section
found_sections (Bytes bytes) = sections_in bytes
found_sections Missing = []
found_sections TooLarge = []
found_sections Fault = []

-- those that are built in, and then those of the file
abbrev pub sections_with : Found → List Section
sections_with found = builtin_sections ++ found_sections found
