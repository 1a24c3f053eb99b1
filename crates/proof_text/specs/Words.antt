-- What the lines of the head say, one by one.
use Rattle.std.specs.Prelude.{ℕ, Bool, List, Option, bytes_eq, codes, option_and_then}
use Rattle.foundation.specs.Numbers.{number_within}
use Rattle.game_play.specs.declared.game.TheConstants.{MOST_PLIES}
use Rattle.game_text.specs.declared.goal.Goal.{Goal}
use Rattle.game_text.specs.Goal.{after_words, goal_by}

-- these words and a number of a range
abbrev pub number_said : List ℕ → ℕ → ℕ → List ℕ → Option ℕ
number_said words low high text = option_and_then (number_within low high) (after_words words text)

-- `strategy 2`
abbrev pub is_version : List ℕ → Bool
is_version text = bytes_eq text (codes "strategy 2")

-- `rules K`, K from 1 to 512
unfoldable pub rules_said : List ℕ → Option ℕ
rules_said text = number_said (codes "rules ") 1 512 text

-- `start FEN`
unfoldable pub start_said : List ℕ → Option (List ℕ)
start_said text = after_words (codes "start ") text

-- `history N`, N up to 8,192
unfoldable pub history_said : List ℕ → Option ℕ
history_said text = number_said (codes "history ") 0 MOST_PLIES text

-- `goal white N` or `goal black N`, N from 1 to 100
unfoldable pub goal_said : List ℕ → Option Goal
goal_said text = goal_by (after_words (codes "goal white ") text) (after_words (codes "goal black ") text)
