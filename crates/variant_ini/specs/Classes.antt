-- Classes of keys.
use Rattle.std.specs.Prelude.{◌≡◌, ℕ, ◌+◌, ◌*◌, ◌%◌, Bool, false, List, None, slice_index_or}
use Rattle.std.specs.List.{fold}
use Rattle.variant_ini.specs.declared.key_line.KeyLine.{KeyLine}
use Rattle.variant_ini.specs.LastPlaces.{last_place}

abbrev pub next_class : ℕ → ℕ → ℕ
next_class class byte = (class * 31 + byte) % 1024

-- the class of a key
unfoldable pub class_of : List ℕ → ℕ
class_of key = fold next_class 0 key

-- no line has a key of a class that is not marked
abbrev pub MarksClasses : List Bool → List KeyLine → Type 0
MarksClasses marks lines =
    (key : List ℕ) → slice_index_or marks (class_of key) false ≡ false → last_place lines key ≡ None
