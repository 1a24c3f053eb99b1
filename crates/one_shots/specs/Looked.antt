-- What was read of files.
use Rattle.std.specs.Prelude.{◌≡◌, ◌<◌, ℕ, List, length, Option, Some, None}
use Rattle.io_ports.specs.declared.files.TheConstants.{MAX_FILE}
use Rattle.io_ports.specs.Files.{Contents, Finds, Read}
use Rattle.io_ports.specs.Trace.{faults_in}

-- the file has more bytes than a file may have
abbrev pub IsTooLarge : Option (List ℕ) → Type 0
IsTooLarge None = ⊥
IsTooLarge (Some bytes) = MAX_FILE < length bytes

-- the files tell their contents, and these reads found them, without a fault
abbrev pub TellsReads : Option Contents → List Read → Type 0
TellsReads None reads = ⊥
TellsReads (Some files) reads = Finds (Some files) reads × (faults_in reads ≡ 0)
