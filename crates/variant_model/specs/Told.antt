-- What a section tells of its rules, so that a section without a parent can say the same.
use Rattle.std.specs.Prelude.{ℕ, Bool, false, is_none, List, [], ◌∷◌, Option, Some, None, if◌then◌else◌, map}
use Rattle.std.specs.List.{flat_map}
use Rattle.variant_ini.specs.declared.key_line.KeyLine.{KeyLine}
use Rattle.variant_ini.specs.Lone.{lone_section}
use Rattle.variant_ini.specs.OptionValue.{option_value}
use Rattle.variant_ini.specs.Section.{Section, key_line}
use Rattle.variant_options.specs.Keys.{ordered_keys}
use Rattle.variant_options.specs.LineFaults.{piece_named}
use Rattle.variant_options.specs.PieceTable.{PieceRow}
use Rattle.variant_model.specs.PieceLetters.{piece_letter}

-- a section does not have the piece
abbrev pub lacks_row : List Section → ℕ → Option PieceRow → Bool
lacks_row sections place None = false
lacks_row sections place (Some piece) = is_none (piece_letter sections place piece.key)

-- the key is that of a piece, and a section does not have it
abbrev pub lacks_piece : List Section → ℕ → List ℕ → Bool
lacks_piece sections place key = lacks_row sections place (piece_named key)

-- the value of a key in a section, its own or inherited; none where the key is that of a piece that the section lacks
abbrev pub told_value : List Section → ℕ → List ℕ → Option (List ℕ)
told_value sections place key = if lacks_piece sections place key then None else option_value sections place key

-- the key with its value, or nothing where it has none
abbrev pub with_value : List ℕ → Option (List ℕ) → List (List ℕ × List ℕ)
with_value key None = []
with_value key (Some value) = (key, value) ∷ []

-- what is told of a key
unfoldable pub told_of : List Section → ℕ → List ℕ → List (List ℕ × List ℕ)
told_of sections place key = with_value key (told_value sections place key)

-- what a section tells: each option that has a value, and each piece that the section has, in byte order of the keys
unfoldable pub told : List Section → ℕ → List (List ℕ × List ℕ)
told sections place = flat_map (told_of sections place) ordered_keys

-- a pair as a line of a section
abbrev pub line_of : List ℕ × List ℕ → KeyLine
line_of pair = key_line pair.0 pair.1

-- a section of this name that has no parent, and the lines that another tells
abbrev pub told_section : List ℕ → List Section → ℕ → Section
told_section name sections place = lone_section name (map line_of (told sections place))
