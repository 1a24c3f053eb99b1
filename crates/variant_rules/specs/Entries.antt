-- The sections of variants files in their order, each with its name and with its rules or its first fault.
use Rattle.std.specs.Prelude.{ℕ, Bool, List, [], Option, Result, Err, is_ok, length, map, slice_index_or}
use Rattle.std.specs.List.{find, range_with_len}
use Rattle.std.specs.Option.{option_map}
use Rattle.std.specs.Str.{bytes_eq}
use Rattle.rules_model.specs.declared.rules.Rules.{Rules}
use Rattle.variant_ini.specs.Section.{Section, section_at}
use Rattle.variant_model.specs.Entry as section
use Rattle.variant_model.specs.declared.fault.SectionFault.{SectionFault}
use Rattle.variant_model.specs.declared.fault.SectionFault.TheVariants.{RefusedParent}

pub record Named : Type 0 where
  pub name : List ℕ
  -- the rules, or the first fault
  pub entry : Result Rules SectionFault

-- the section at a place
abbrev pub named_at : List Section → ℕ → Named
named_at sections place = record { name = (section_at sections place).name; entry = section.entry sections place }

-- the sections before a place
unfoldable pub entries_before : List Section → ℕ → List Named
entries_before sections place = map (named_at sections) (range_with_len 0 place)

-- all sections
abbrev pub entries : List Section → List Named
entries sections = entries_before sections (length sections)

abbrev pub is_accepted : Named → Bool
is_accepted named = is_ok named.entry

-- ---- by the place

abbrev pub no_named : Named
no_named = record { name = []; entry = Err RefusedParent }

-- the entry at a place; past the end, a refusal
abbrev pub entry_at : List Named → ℕ → Result Rules SectionFault
entry_at sections place = (slice_index_or sections place no_named).entry

-- ---- by the name

abbrev pub has_name : List ℕ → Named → Bool
has_name name named = bytes_eq named.name name

abbrev pub entry_of : Named → Result Rules SectionFault
entry_of named = named.entry

-- the rules or the fault of the first section of a name, None where no section has the name
unfoldable pub found : List Named → List ℕ → Option (Result Rules SectionFault)
found sections name = option_map entry_of (find (has_name name) sections)
