-- The goal of a problem: which side is to win, and within how many of its own moves; or a stipulation for the side that
-- is to move.
use Rattle.std.specs.Prelude.{ℕ, Bool, true, false, ◌&&◌, nat_le, List, length, take, drop, Option, Some, None, bytes_eq, codes, if◌then◌else◌}
use Rattle.rules_model.specs.declared.board.Side.{Side}
use Rattle.rules_model.specs.declared.board.Side.TheVariants.{White, Black}
use Rattle.foundation.specs.Numbers.{number_of}
use Rattle.game_text.specs.declared.goal.Goal.{Goal}
use Rattle.game_text.specs.declared.goal.Stipulation.{Stipulation}
use Rattle.game_text.specs.declared.goal.TheConstants.{MOST_MOVES, MOST_STIPULATED}

-- what stands after these words, where the text begins with them
abbrev pub after_words : List ℕ → List ℕ → Option (List ℕ)
after_words words text = if bytes_eq (take (length words) text) words then Some (drop (length words) text) else None

-- within 1 to 100 moves of the side
abbrev pub within : Side → Option ℕ → Option Goal
within side None = None
within side (Some moves) =
    if nat_le 1 moves && nat_le moves MOST_MOVES then Some (record { attacker = side; moves = moves }) else None

-- by what stands after the words of White, and else by what stands after those of Black
abbrev pub goal_by : Option (List ℕ) → Option (List ℕ) → Option Goal
goal_by (Some number) black = within White (number_of number)
goal_by None (Some number) = within Black (number_of number)
goal_by None None = None

-- `mate white N` or `mate black N`
unfoldable pub goal_said : List ℕ → Option Goal
goal_said text = goal_by (after_words (codes "mate white ") text) (after_words (codes "mate black ") text)

-- ---- stipulations

-- within 1 to 6 moves of the side that is to move, or of each side
abbrev pub stipulated : Bool → Option ℕ → Option Stipulation
stipulated help None = None
stipulated help (Some moves) =
    if nat_le 1 moves && nat_le moves MOST_STIPULATED then Some (record { help = help; moves = moves }) else None

abbrev pub stipulation_by : Option (List ℕ) → Option (List ℕ) → Option Stipulation
stipulation_by (Some number) help = stipulated false (number_of number)
stipulation_by None (Some number) = stipulated true (number_of number)
stipulation_by None None = None

-- `self N` or `help N`
unfoldable pub stipulation_said : List ℕ → Option Stipulation
stipulation_said text = stipulation_by (after_words (codes "self ") text) (after_words (codes "help ") text)
