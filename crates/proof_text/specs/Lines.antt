-- The first of some lines.
use Rattle.std.specs.Prelude.{ℕ, List, [], ◌∷◌, Option, None, Some}
use Rattle.io_ports.specs.Lines.{Line, Text, TooLong}

-- the text of the first line: none where there is no line, or it is too long
abbrev pub first_text : List Line → Option (List ℕ)
first_text [] = None
first_text (TooLong ∷ lines) = None
first_text (Text text ∷ lines) = Some text
