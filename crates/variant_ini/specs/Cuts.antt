-- How the bytes of a variants file are cut.
use Rattle.std.specs.Prelude.{ℕ, Bool, ◌==◌, List, [], ◌∷◌, reverse, if◌then◌else◌}
use Rattle.std.specs.List.{onto_first}
use Rattle.foundation.specs.Cuts.{is_blank}

-- without the blanks at the front
abbrev pub without_blanks : List ℕ → List ℕ
without_blanks [] = []
without_blanks (b ∷ bs) = if is_blank b then without_blanks bs else b ∷ bs

-- without the blanks at both ends
unfoldable pub trimmed : List ℕ → List ℕ
trimmed bytes = reverse (without_blanks (reverse (without_blanks bytes)))

abbrev pub is_feed : ℕ → Bool
is_feed b = b == 10

-- the lines of a byte and of the bytes behind it: a line feed ends a line, and is in none
abbrev pub with_byte : ℕ → List (List ℕ) → List (List ℕ)
with_byte b lines = if is_feed b then [] ∷ lines else onto_first b lines

-- the lines: the parts before, between and behind the line feeds
unfoldable pub cut_lines : List ℕ → List (List ℕ)
cut_lines [] = [] ∷ []
cut_lines (b ∷ bs) = with_byte b (cut_lines bs)
