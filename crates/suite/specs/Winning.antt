-- Within how many of its moves a side wins a game, and how.
use Rattle.std.specs.Prelude.{◌≡◌, ℕ, Bool, false, Option, Some, None}
use Rattle.rules_model.specs.declared.board.Side.{Side}
use Rattle.rules_model.specs.declared.rules.Rules.{Rules}
use Rattle.rules_model.specs.Games.{Story}
use Rattle.forced_wins.specs.Wins.{wins}
use Rattle.mate_search.specs.Least.{first_within}
use Rattle.mate_showing.specs.Answers.{IsShown}
use Rattle.strategy.specs.declared.nodes.Strategy.{Strategy}
use Rattle.suite.specs.declared.winning.LeastWin.{LeastWin}

-- the side wins the game by this number of its moves
abbrev pub side_wins : Rules → Story → Side → ℕ → Bool
side_wins rules g a k = wins rules k g a

-- the least number of its moves from 1 to n within which the side wins the game, None where it wins within none
abbrev pub least_for : Rules → ℕ → Story → Side → Option ℕ
least_for rules n g a = first_within (side_wins rules g a) n

-- a strategy by which the side wins the game within k moves, or none where it does not
abbrev pub IsSettledBy : Rules → Story → Side → ℕ → Option Strategy → Type 0
IsSettledBy rules g a k (Some s) = IsShown rules g a k s
IsSettledBy rules g a k None = wins rules k g a ≡ false

-- the number is the least, and the strategy is good within it
pub record IsWonBy (rules : Rules) (g : Story) (a : Side) (n : ℕ) (w : LeastWin) : Type 0 where
  pub least : least_for rules n g a ≡ Some w.moves
  pub shown : IsShown rules g a w.moves w.strategy

abbrev pub IsLeastWin : Rules → Story → Side → ℕ → Option LeastWin → Type 0
IsLeastWin rules g a n None = least_for rules n g a ≡ None
IsLeastWin rules g a n (Some w) = IsWonBy rules g a n w
