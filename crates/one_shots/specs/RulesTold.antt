-- `rules NAME`: the lines that a variant tells of its rules.
use Rattle.std.specs.Prelude.{◌≡◌, ◌++◌, ℕ, List, codes, Option, Some, None, Result, Ok, Err}
use Rattle.rules_model.specs.declared.rules.Rules.{Rules}
use Rattle.variant_ini.specs.OptionValue.{first_named}
use Rattle.variant_ini.specs.Section.{Section}
use Rattle.variant_model.specs.declared.fault.SectionFault.{SectionFault}
use Rattle.variant_rules.specs.Entries.{entries, found}
use Rattle.proof_text.specs.Writing.{header_text, section_text}
use Rattle.game_text.specs.Fault.{fault_text}
use Rattle.game_text.specs.declared.fault.GameFault.TheVariants.{UnknownVariant, RefusedVariant}
use Rattle.one_shot_checks.specs.Fault.{error_line}

-- A fault of the variant, or the lines that its section tells. A variant that is found has a section, at a place.
abbrev pub SaysTold : List Section → List ℕ → Option (Result Rules SectionFault) → Option ℕ → ℕ → List ℕ → Type 0
SaysTold sections name None first status text = (status ≡ 3) × (text ≡ error_line (fault_text (UnknownVariant name)))
SaysTold sections name (Some (Err fault)) first status text =
    (status ≡ 3) × (text ≡ error_line (fault_text (RefusedVariant fault)))
SaysTold sections name (Some (Ok rules)) None status text = ⊥
SaysTold sections name (Some (Ok rules)) (Some place) status text =
    (status ≡ 0) × (text ≡ section_text sections place)

-- a file of variants: the header `[name]`, and this text below it
abbrev pub below_header : List ℕ → List ℕ → List ℕ
below_header name text = (header_text name ++ codes "\n") ++ text

-- the answer to `rules`, where there are these sections
unfoldable pub SaysRules : List Section → List ℕ → ℕ → List ℕ → Type 0
SaysRules sections name status text =
    SaysTold sections name (found (entries sections) name) (first_named sections name) status text
