-- The value of an option in a section, which a section inherits from its parents.
use Rattle.std.specs.Prelude.{ℕ, zero, suc, ◌+◌, List, [], ◌∷◌, Option, None, Some, option_and_then, if◌then◌else◌, take}
use Rattle.std.specs.Option.{option_map}
use Rattle.std.specs.Str.{bytes_eq}
use Rattle.variant_ini.specs.Section.{Section, section_at, last_value}

-- the place of the first section of a name
unfoldable pub first_named : List Section → List ℕ → Option ℕ
first_named [] name = None
first_named (section ∷ sections) name =
    if bytes_eq section.name name then Some 0 else option_map suc (first_named sections name)

-- the place of a section's parent: the first section above it that has the parent's name
unfoldable pub parent_place : List Section → ℕ → Option ℕ
parent_place sections place = option_and_then (first_named (take place sections)) (section_at sections place).parent

abbrev pub own_or : Option (List ℕ) → Option (List ℕ) → Option (List ℕ)
own_or (Some value) inherited = Some value
own_or None inherited = inherited

-- the value of a key within so many sections of the chain of parents
unfoldable pub value_within : ℕ → List Section → List ℕ → ℕ → Option (List ℕ)
value_within zero sections key place = None
value_within (suc n) sections key place =
    own_or (last_value (section_at sections place).lines key)
    (option_and_then (value_within n sections key) (parent_place sections place))

-- the value of a key in a section: that of its own last line for the key, else the key's value in its parent, else
-- none. A parent stands above its child, so no chain is longer than the place and 1.
unfoldable pub option_value : List Section → ℕ → List ℕ → Option (List ℕ)
option_value sections place key = value_within (place + 1) sections key place
