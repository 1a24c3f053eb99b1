-- The side to move, the checks left and the counts.
use Rattle.std.specs.Prelude.{ℕ, nat_le, ◌==◌, ◌&&◌, Bool, List, [], ◌∷◌, Option, Some, None, Result, Ok, Err, if◌then◌else◌}
use Rattle.std.specs.List.{slice_split}
use Rattle.rules_model.specs.declared.board.Side.{Side}
use Rattle.rules_model.specs.declared.board.Side.TheVariants.{White, Black}
use Rattle.fen_model.specs.declared.fault.FenFault.{FenFault}
use Rattle.fen_model.specs.declared.fault.FenFault.TheVariants as fault
use Rattle.foundation.specs.Numbers.{number_of}

-- `w` or `b`
unfoldable pub side_of : List ℕ → Result Side FenFault
side_of (b ∷ []) = if b == 119 then Ok White else if b == 98 then Ok Black else Err fault.Side
side_of text = Err fault.Side

abbrev pub is_plus : ℕ → Bool
is_plus b = b == 43

abbrev pub two_checks : Option ℕ → Option ℕ → Result (List ℕ) FenFault
two_checks None black = Err fault.Checks
two_checks (Some white) None = Err fault.Checks
two_checks (Some white) (Some black) =
    if nat_le white 99 && nat_le black 99 then Ok (white ∷ black ∷ []) else Err fault.Checks

abbrev pub checks_in : List (List ℕ) → Result (List ℕ) FenFault
checks_in (white ∷ black ∷ []) = two_checks (number_of white) (number_of black)
checks_in parts = Err fault.Checks

-- two numbers up to 99 with a `+` between them
unfoldable pub checks_of : List ℕ → Result (List ℕ) FenFault
checks_of text = checks_in (slice_split is_plus text)

abbrev pub up_to_most : Option ℕ → Result ℕ FenFault
up_to_most None = Err fault.Counter
up_to_most (Some n) = if nat_le n 9999 then Ok n else Err fault.Counter

-- a number up to 9,999
unfoldable pub count_of : List ℕ → Result ℕ FenFault
count_of text = up_to_most (number_of text)
