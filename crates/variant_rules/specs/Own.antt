-- What the own lines of a section say of the pieces.
use Rattle.std.specs.Prelude.{ℕ, Bool, List, Option, Some, None, count_by}
use Rattle.std.specs.Option.{option_map}
use Rattle.std.specs.List.{list_any}
use Rattle.rules_model.specs.declared.board.Kind.{Kind}
use Rattle.rules_model.specs.Kinds.{names}
use Rattle.variant_ini.specs.declared.key_line.KeyLine.{KeyLine}
use Rattle.variant_ini.specs.Section.{last_value}
use Rattle.variant_model.specs.PieceLetters.{letter_in}

-- None without a line for the piece, else the letter that its last line gives
abbrev pub own_value : List KeyLine → List ℕ → Option (Option Kind)
own_value lines piece = option_map letter_in (last_value lines piece)

abbrev pub flat : Option (Option Kind) → Option Kind
flat None = None
flat (Some letter) = letter

-- how many pieces have the letter
abbrev pub letter_count : List (Option (Option Kind)) → Kind → ℕ
letter_count letters kind = count_by (λ letter. names (flat letter) kind) letters

-- some piece has it
abbrev pub letter_given : List (Option (Option Kind)) → Kind → Bool
letter_given letters kind = list_any (λ letter. names (flat letter) kind) letters
