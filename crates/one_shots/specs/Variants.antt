-- The file of variants, read and judged before the command.
use Rattle.std.specs.Prelude.{◌≡◌, List, [], ◌∷◌, Option, Some, None, option_map}
use Rattle.io_ports.specs.Files.{Found, Read}
use Rattle.variant_rules.specs.Loading.{refusal, sections_with}
use Rattle.variant_ini.specs.Section.{Section}
use Rattle.variant_model.specs.Builtin.{builtin_sections}
use Rattle.one_shot_checks.specs.declared.fault.Fault.{Fault}
use Rattle.one_shot_checks.specs.declared.fault.Fault.TheVariants.{Load}
use Rattle.words.specs.Asked.{Asked}
use Rattle.words.specs.Options.{Text}

-- these are the reads of the file of variants: one of this name, and none where none is named
abbrev pub AreReadsOf : Option Text → List Read → Type 0
AreReadsOf None reads = reads ≡ []
AreReadsOf (Some name) [] = ⊥
AreReadsOf (Some name) (read ∷ []) = read.name ≡ name
AreReadsOf (Some name) (read ∷ next ∷ reads) = ⊥

-- those that a run does first
abbrev pub AreFirstReads : Option Asked → List Read → Type 0
AreFirstReads None reads = reads ≡ []
AreFirstReads (Some a) reads = AreReadsOf a.variants reads

-- ---- what was found of it

-- the fault of what was found
abbrev pub fault_found : Found → Option Fault
fault_found found = option_map Load (refusal found)

-- the fault of what the first read found, where a file of variants is named
abbrev pub fault_in : Option Text → List Read → Option Fault
fault_in None reads = None
fault_in (Some name) [] = None
fault_in (Some name) (read ∷ reads) = fault_found read.found

-- the sections that there are: those that are built in, and then those that the first read found of a file that is
-- named
abbrev pub sections_in : Option Text → List Read → List Section
sections_in None reads = builtin_sections
sections_in (Some name) [] = builtin_sections
sections_in (Some name) (read ∷ reads) = sections_with read.found

-- ---- what follows

-- the file of variants was read, where one is named, and taken
abbrev pub Accepts : Option Text → List Read → Type 0
Accepts name reads = AreReadsOf name reads × (fault_in name reads ≡ None)

-- it was refused, for this fault, and the command is not reached
abbrev pub Refuses : Option Text → List Read → Fault → Type 0
Refuses name reads fault = AreReadsOf name reads × (fault_in name reads ≡ Some fault)
