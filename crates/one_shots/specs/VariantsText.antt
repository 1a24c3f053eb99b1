-- What `variants` prints: a line for each section.
use Rattle.std.specs.Prelude.{ℕ, List, [], ◌++◌, Option, Some, None, Result, Ok, Err, codes, slice_get}
use Rattle.std.specs.List.{flat_map}
use Rattle.rules_model.specs.declared.rules.Rules.{Rules}
use Rattle.variant_model.specs.declared.fault.SectionFault.{SectionFault}
use Rattle.variant_model.specs.Fault.{fault_text}
use Rattle.variant_rules.specs.Entries.{Named}

-- a section is accepted, or has this fault
abbrev pub verdict_text : Result Rules SectionFault → List ℕ
verdict_text (Ok rules) = codes " ok\n"
verdict_text (Err fault) = codes " " ++ (fault_text fault ++ codes "\n")

abbrev pub variant_line : Named → List ℕ
variant_line named = named.name ++ verdict_text named.entry

abbrev pub line_of : Option Named → List ℕ
line_of None = []
line_of (Some named) = variant_line named

-- the line of the section at a place
abbrev pub line_at : List Named → ℕ → List ℕ
line_at variants place = line_of (slice_get variants place)

unfoldable pub variants_text : List Named → List ℕ
variants_text variants = flat_map variant_line variants
