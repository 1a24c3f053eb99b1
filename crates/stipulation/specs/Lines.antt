-- A game and the positions along a line of moves after it.
use Rattle.std.specs.Prelude.{◌≡◌, ℕ, ◌≤◌, true, List, All, length, take}
use Rattle.std.specs.List.{fold}
use Rattle.rules_model.specs.declared.board.Position.{Position}
use Rattle.rules_model.specs.declared.moves.Move.{Move}
use Rattle.rules_model.specs.declared.moves.Outcome.{Outcome}
use Rattle.rules_model.specs.declared.rules.Rules.{Rules}
use Rattle.rules_model.specs.Games.{Story, history, result}
use Rattle.rules_model.specs.Legal.{legal}
use Rattle.rules_model.specs.Repeats.{repeat_of}
use Rattle.rules_model.specs.Sound.{is_sound}
use Rattle.forced_wins.specs.Contests.{Contest}
use Rattle.game_play.specs.Played.{Played, story}
use Rattle.stipulation.specs.declared.cert.Step.{Step}
use Rattle.stipulation.specs.Trees.{game_at}

-- one position more
abbrev pub longer : Story → Position → Story
longer g p = record { earlier = history g; last = p }

-- the game that goes on along the positions
unfoldable pub along : Story → List Position → Story
along g ps = fold longer g ps

abbrev pub AreSound : Rules → List Position → Type 0
AreSound rules ps = All (λ p. is_sound rules p ≡ true) ps

-- The positions lead from the game to that of the last of the earlier steps, and each part of them to that of the last
-- one of its ply.
abbrev pub IsPathTo : Contest Story Move → Story → List Step → List Position → Type 0
IsPathTo c g earlier ps = (q : ℕ) → q ≤ length ps → along g (take q ps) ≡ game_at c g earlier q

-- ---- after a game that was played

abbrev pub game_after : Played → List Position → Story
game_after g ps = along (story g) ps

abbrev pub result_after : Played → List Position → Outcome
result_after g ps = result g.rules (game_after g ps)

abbrev pub legal_after : Played → List Position → List Move
legal_after g ps = legal g.rules (repeat_of (game_after g ps).last)
