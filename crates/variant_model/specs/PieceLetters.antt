-- Which pieces a section has, and by which letters.
use Rattle.std.specs.Prelude.{ℕ, zero, suc, ◌+◌, nat_lt, Bool, List, Option, Some, None, option_and_then, if◌then◌else◌, count_by}
use Rattle.std.specs.List.{list_any}
use Rattle.foundation.specs.Count.{first_below}
use Rattle.rules_model.specs.declared.board.Kind.{Kind}
use Rattle.rules_model.specs.Kinds.{names}
use Rattle.variant_ini.specs.declared.key_line.KeyLine.{KeyLine}
use Rattle.variant_ini.specs.Section.{Section, section_at, last_value}
use Rattle.variant_ini.specs.OptionValue.{parent_place}
use Rattle.variant_options.specs.Letters.{kind}
use Rattle.variant_options.specs.PieceTable.{pieces, read_piece, value_letter}

abbrev pub letter_in : List ℕ → Option Kind
letter_in value = value_letter (read_piece value)

-- the letter that the lines give to a piece: that of the last line for it
abbrev pub own_letter : List KeyLine → List ℕ → Option Kind
own_letter lines piece = option_and_then letter_in (last_value lines piece)

-- the lines give the letter to some piece
abbrev pub gives_letter : List KeyLine → Kind → Bool
gives_letter lines k = list_any (λ piece. names (own_letter lines piece.key) k) pieces

abbrev pub unless_given : List KeyLine → Option Kind → Option Kind
unless_given lines None = None
unless_given lines (Some k) = if gives_letter lines k then None else Some k

abbrev pub letter_with : List KeyLine → Option (List ℕ) → Option Kind → Option Kind
letter_with lines (Some value) inherited = letter_in value
letter_with lines None inherited = unless_given lines inherited

-- the letter of a piece within so many sections of the chain of parents
unfoldable pub letter_within : ℕ → List Section → List ℕ → ℕ → Option Kind
letter_within zero sections piece place = None
letter_within (suc n) sections piece place =
    letter_with (section_at sections place).lines (last_value (section_at sections place).lines piece)
    (option_and_then (letter_within n sections piece) (parent_place sections place))

-- the letter of a piece in a section, None where the section has no such piece: that of the section's own last line for
-- it, else the one in its parent, unless the section gives that letter to another piece. A parent stands above its
-- child, so no chain is longer than the place and 1
unfoldable pub piece_letter : List Section → ℕ → List ℕ → Option Kind
piece_letter sections place piece = letter_within (place + 1) sections piece place

-- the lines of the section at a place
abbrev pub own_lines : List Section → ℕ → List KeyLine
own_lines sections place = (section_at sections place).lines

-- the letter of a piece in a section's parent
abbrev pub parent_letter : List Section → ℕ → List ℕ → Option Kind
parent_letter sections place piece =
    option_and_then (λ parent. piece_letter sections parent piece) (parent_place sections place)

-- ---- one letter for two pieces

abbrev pub is_given_twice : List KeyLine → ℕ → Bool
is_given_twice lines k = nat_lt 1 (count_by (λ piece. names (own_letter lines piece.key) (kind k)) pieces)

-- the smallest letter that the lines give to more than one piece
unfoldable pub letter_twice : List KeyLine → Option ℕ
letter_twice lines = first_below (is_given_twice lines) 26
