-- Problems.
use Rattle.std.specs.Prelude.{◌≡◌, ℕ, ◌≤◌, true, [], Option}
use Rattle.rules_model.specs.Fit.{IsFit}
use Rattle.rules_model.specs.Games.{Story}
use Rattle.rules_model.specs.Sound.{is_sound}
use Rattle.forced_wins.specs.Wins.{IsInLimit}
use Rattle.game_play.specs.Played.{Played}
use Rattle.suite.specs.declared.problem.Problem.{Problem}
use Rattle.mate_search.specs.Least.{least}

-- the game that is the problem's position alone
abbrev pub game_of : Problem → Story
game_of p = record { earlier = []; last = p.position }

-- the same as a game that is kept
abbrev pub started : Problem → Played
started p = record { rules = p.rules; start = p.position; moves = [] }

-- a problem may be asked: its rules fit, its position is sound, its number is from 1 to 20, and no move-count rule ends
-- the game within it
pub record IsFair (p : Problem) : Type 0 where
  pub fit : IsFit p.rules
  pub sound : is_sound p.rules p.position ≡ true
  pub some : 1 ≤ p.n
  pub few : p.n ≤ 20
  pub uncounted : IsInLimit p.rules p.n (game_of p)

-- the least number of moves within which the side that is to move wins
abbrev pub least_of : Problem → Option ℕ
least_of p = least p.rules p.n (game_of p)
