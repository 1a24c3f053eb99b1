-- What one line of a variants file says.
use Rattle.std.specs.Prelude.{ℕ, Bool, true, ◌==◌, ◌||◌, ◌&&◌, not, nat_lt, nat_le, List, [], ◌∷◌, Option, None, Some, if◌then◌else◌, length, take, slice_index, ◌-◌}
use Rattle.std.specs.List.{list_any, list_all}
use Rattle.std.specs.Str.Lines.{strip_carriage_return}
use Rattle.foundation.specs.Cuts.{cut}
use Rattle.variant_ini.specs.Cuts.{trimmed}

pub data LineKind : Type 0 where
  comment : LineKind
  -- a byte above 127 stands outside a comment
  foreign : LineKind
  -- a section's name, and its parent's name where there is one
  header : List ℕ → Option (List ℕ) → LineKind
  -- a key and its value
  pair : List ℕ → List ℕ → LineKind
  bad : LineKind

-- empty, or begins with `#` or `;`
abbrev pub is_comment : List ℕ → Bool
is_comment [] = true
is_comment (b ∷ bs) = b == 35 || b == 59

-- printable, and no blank, none of `[ ] ( ) { }` and no colon
abbrev pub is_name_byte : ℕ → Bool
is_name_byte b =
    nat_lt 32 b && nat_lt b 127 && not (b == 91 || b == 93 || b == 40 || b == 41 || b == 123 || b == 125 || b == 58)

-- 1 to 64 such bytes
abbrev pub is_name : List ℕ → Bool
is_name bytes = nat_lt 0 (length bytes) && nat_le (length bytes) 64 && list_all is_name_byte bytes

-- the bytes between a `[` at the front and a `]` at the end
abbrev pub bracketed : List ℕ → Option (List ℕ)
bracketed [] = None
bracketed (b ∷ bs) = if b == 91 && slice_index bs (length bs - 1) == 93 then Some (take (length bs - 1) bs) else None

abbrev pub are_names : List ℕ → Option (List ℕ) → Bool
are_names name None = is_name name
are_names name (Some parent) = is_name name && is_name parent

-- `name` or `name:parent`
abbrev pub names_of : List ℕ × Option (List ℕ) → Option (List ℕ × Option (List ℕ))
names_of parts = if are_names parts.0 parts.1 then Some parts else None

abbrev pub inside_header : Option (List ℕ) → Option (List ℕ × Option (List ℕ))
inside_header None = None
inside_header (Some inside) = names_of (cut 58 inside)

-- `[name]` or `[name:parent]`
unfoldable pub header_of : List ℕ → Option (List ℕ × Option (List ℕ))
header_of text = inside_header (bracketed text)

abbrev pub pair_from : List ℕ → Option (List ℕ) → Option (List ℕ × List ℕ)
pair_from before None = None
pair_from before (Some behind) = if length (trimmed before) == 0 then None else Some (trimmed before, trimmed behind)

-- `key = value`, split at the first `=`; the key is not empty
unfoldable pub pair_of : List ℕ → Option (List ℕ × List ℕ)
pair_of text = pair_from (cut 61 text).0 (cut 61 text).1

abbrev pub kind_from : Option (List ℕ × Option (List ℕ)) → Option (List ℕ × List ℕ) → LineKind
kind_from (Some names) other = header names.0 names.1
kind_from None (Some words) = pair words.0 words.1
kind_from None None = bad

-- what a line without its final CR and outer blanks says
unfoldable pub text_kind : List ℕ → LineKind
text_kind text =
    if is_comment text then comment
    else if list_any (nat_le 128) text then foreign
    else kind_from (header_of text) (pair_of text)

-- what a line says: a final CR is dropped, and then the blanks at both ends
unfoldable pub line_kind : List ℕ → LineKind
line_kind line = text_kind (trimmed (strip_carriage_return line))
