-- A line of no moves after a game stands as the game.
use Rattle.std.proofs.Common.{◌≡◌, ℕ, ◌+◌, [], sym, subst}
use Rattle.rules_model.specs.declared.rules.Rules.{Rules}
use Rattle.rules_model.specs.Games.{Story}
use Rattle.rules_model.proofs.ResultLaws.{story_from-none}
use Rattle.game_play.specs.Played.{Played, story}
use Rattle.game_line.specs.Lined.{Lined, line_of, story_of_line}

-- the line of no moves after the game, with room for a search of this depth
abbrev pub line_after : Played → ℕ → Lined
line_after game depth = line_of game [] (depth + 4)

module _ (P : Rules → Story → Type 0) (game : Played) (depth : ℕ) (l : Lined) (is : l ≡ line_after game depth) where
  -- what holds of the one holds of the other
  pub from_line : P l.rules (story_of_line l) → P game.rules (story game)
  from_line h = subst (P game.rules) (story_from-none game.rules (story game)) (subst (λ (x : Lined). P x.rules (story_of_line x)) is h)

  pub to_line : P game.rules (story game) → P l.rules (story_of_line l)
  to_line h = subst (λ (x : Lined). P x.rules (story_of_line x)) (sym is) (subst (P game.rules) (sym (story_from-none game.rules (story game))) h)
