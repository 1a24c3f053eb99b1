-- The piece at the front of a text.
use Rattle.std.specs.Prelude.{ℕ, Bool, List, ◌∷◌, Option, Some, None, Result, Ok, if◌then◌else◌}
use Rattle.rules_model.specs.declared.board.Cell.{Cell}
use Rattle.rules_model.specs.declared.rules.Rules.{Rules}
use Rattle.fen_model.specs.declared.fault.FenFault.{FenFault}
use Rattle.fen_model.specs.Board.{marked_cell, squares_of}
use Rattle.fen_model.specs.Chain.{◌>>=◌}
use Rattle.fen_model.specs.Tokens.{is_letter, letter_kind, letter_side, tokens_of}

-- the piece of a byte, where it is a letter, with its marks
abbrev pub byte_cell : Rules → Bool → ℕ → Bool → Option Cell
byte_cell rules before b after =
    if is_letter b then marked_cell rules before (letter_side b) (letter_kind b) after else None

-- the squares of a rank that begins with the piece
abbrev pub piece_first : Rules → Cell → List ℕ → Result (List (Option Cell)) FenFault
piece_first rules c rest = do
  others ← squares_of rules (tokens_of rest)
  Ok (Some c ∷ others)
