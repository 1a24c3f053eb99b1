-- What one line of the text of a certificate says.
use Rattle.std.specs.Prelude.{ℕ, Bool, false, ◌||◌, ◌&&◌, List, Option, None, Some, is_some, bytes_eq, codes, if◌then◌else◌}
use Rattle.foundation.specs.Numbers.{number_within}
use Rattle.foundation.specs.Cuts.{cut}

-- ---- the first line

abbrev pub is_title_word : List ℕ → Bool
is_title_word word = bytes_eq word (codes "selfmate") || bytes_eq word (codes "helpmate")

abbrev pub title_after : List ℕ → Option (List ℕ) → Bool
title_after word None = false
title_after word (Some number) = is_title_word word && is_some (number_within 0 6 number)

-- `selfmate K` or `helpmate K`, K from 0 to 6: either word for either kind of certificate
unfoldable pub is_title : List ℕ → Bool
is_title text = title_after (cut 32 text).0 (cut 32 text).1

-- ---- the lines after it

pub data Said : Type 0 where
  -- the ply of a step, and the text of its move
  step_line : ℕ → List ℕ → Said
  end_line : Said

abbrev pub step_of : List ℕ → Option ℕ → Option Said
step_of chosen None = None
step_of chosen (Some ply) = Some (step_line ply chosen)

abbrev pub said_after : List ℕ → Option (List ℕ) → Option Said
said_after word None = if bytes_eq word (codes "end") then Some end_line else None
said_after word (Some chosen) = step_of chosen (number_within 0 65535 word)

-- `PLY MOVE`, separated by a single blank, or `end`
unfoldable pub said : List ℕ → Option Said
said text = said_after (cut 32 text).0 (cut 32 text).1
