-- A section of a variants file.
use Rattle.std.specs.Prelude.{ℕ, List, [], ◌∷◌, Option, None, Some, if◌then◌else◌, slice_index_or}
use Rattle.std.specs.Str.{bytes_eq}
use Rattle.variant_ini.specs.declared.key_line.KeyLine.{KeyLine}

pub record Section : Type 0 where
  pub name : List ℕ
  pub parent : Option (List ℕ)
  -- the pairs below its header, in their order
  pub lines : List KeyLine

abbrev pub key_line : List ℕ → List ℕ → KeyLine
key_line key value = record { key = key; value = value }

abbrev pub no_section : Section
no_section = record { name = []; parent = None; lines = [] }

-- the section at a place; past the end, a section without a name and lines
abbrev pub section_at : List Section → ℕ → Section
section_at sections place = slice_index_or sections place no_section

abbrev pub or_here : Option (List ℕ) → KeyLine → List ℕ → Option (List ℕ)
or_here (Some value) line key = Some value
or_here None line key = if bytes_eq line.key key then Some line.value else None

-- the value of the last line with this key
unfoldable pub last_value : List KeyLine → List ℕ → Option (List ℕ)
last_value [] key = None
last_value (line ∷ lines) key = or_here (last_value lines key) line key
