-- What the reader makes of one more line.
use Rattle.std.specs.Prelude.{◌≡◌, ℕ, ◌-◌, List, [], ◌∷◌, ◌++◌, Option, None, length, slice_set, Result, MatchResult}
use Rattle.variant_ini.specs.declared.fault.IniFault.{IniFault}
use Rattle.variant_ini.specs.LineKind.{LineKind, comment, foreign, header, pair, bad}
use Rattle.variant_ini.specs.Section.{Section, key_line, section_at}
use Rattle.variant_ini.specs.Reading.{IsFaultOrMemory}

abbrev pub opened : List ℕ → Option (List ℕ) → Section
opened name parent = record { name = name; parent = parent; lines = [] }

abbrev pub with_pair : Section → List ℕ → List ℕ → Section
with_pair section key value = record section { lines = section.lines ++ key_line key value ∷ [] }

-- the sections after one more line: a header opens one, and a pair goes to the last
abbrev pub with_line : LineKind → List Section → List Section
with_line (header name parent) sections = sections ++ opened name parent ∷ []
with_line (pair key value) sections =
    slice_set sections (length sections - 1) (with_pair (section_at sections (length sections - 1)) key value)
with_line comment sections = sections
with_line foreign sections = sections
with_line bad sections = sections

-- the line has no fault, and the sections are those after it; or the answer is its fault, or being out of memory
abbrev pub TakesLine : Option IniFault → LineKind → List Section → List Section → Result (Unit {0}) IniFault → Type 0
TakesLine fault kind old new answer =
    MatchResult answer (λ _. (fault ≡ None) × (new ≡ with_line kind old)) (IsFaultOrMemory fault)
