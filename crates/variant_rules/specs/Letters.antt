-- The letters of pieces, by the lines of a section and by the letters of its parent.
use Rattle.std.specs.Prelude.{ℕ, List, Option, Some, None, if◌then◌else◌, map, slice_index_or}
use Rattle.std.specs.List.{range_with_len}
use Rattle.rules_model.specs.declared.board.Kind.{Kind}
use Rattle.variant_ini.specs.Section.{Section}
use Rattle.variant_options.specs.PieceTable.{pieces}
use Rattle.variant_model.specs.PieceLetters.{parent_letter, piece_letter}
use Rattle.variant_rules.specs.Own.{letter_given}

-- the letter of a piece, by what the section's lines say of it, by the letter in the parent, and by what the lines say
-- of all pieces
abbrev pub letter_by : Option (Option Kind) → Option Kind → List (Option (Option Kind)) → Option Kind
letter_by (Some letter) above own = letter
letter_by None None own = None
letter_by None (Some k) own = if letter_given own k then None else Some k

-- the letters of the pieces, by their places in the table
abbrev pub letters_by : List (Option (Option Kind)) → List (Option Kind) → List (Option Kind)
letters_by own above =
    map (λ i. letter_by (slice_index_or own i None) (slice_index_or above i None) own) (range_with_len 0 56)

-- the letters of the pieces of the table in a section
unfoldable pub letters_of : List Section → ℕ → List (Option Kind)
letters_of sections place = map (λ piece. piece_letter sections place piece.key) pieces

-- the same in its parent
unfoldable pub inherited : List Section → ℕ → List (Option Kind)
inherited sections place = map (λ piece. parent_letter sections place piece.key) pieces

-- the letters of the sections before a place
unfoldable pub letters_before : List Section → ℕ → List (List (Option Kind))
letters_before sections place = map (letters_of sections) (range_with_len 0 place)
