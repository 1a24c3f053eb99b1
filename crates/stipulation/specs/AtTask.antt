-- A task: the game that is the root, what is aimed at in it, and lines of moves from it on.
use Rattle.std.specs.Prelude.{ℕ, Bool, ◌||◌, List, Option, length}
use Rattle.foundation.specs.Member.{Member}
use Rattle.rules_model.specs.declared.board.Position.{Position}
use Rattle.rules_model.specs.declared.board.Side.{Side}
use Rattle.rules_model.specs.declared.moves.Move.{Move}
use Rattle.rules_model.specs.declared.rules.Rules.{Rules}
use Rattle.rules_model.specs.Games.{Story}
use Rattle.rules_model.specs.Sides.{same_side}
use Rattle.forced_wins.specs.Contests.{Contest}
use Rattle.game_play.specs.Played.{story}
use Rattle.stipulation.specs.declared.cert.Step.{Step}
use Rattle.stipulation.specs.declared.task.Task.{Task}
use Rattle.stipulation.specs.Lines as Lines
use Rattle.stipulation.specs.Searches.{found, followed}
use Rattle.stipulation.specs.Stipulations.{aims}

-- helpmates or selfmates
abbrev pub games_for : Bool → Rules → Side → Contest Story Move
games_for help rules a = aims (λ g. help || same_side g.last.side a) rules a

abbrev pub games : Task → Contest Story Move
games t = games_for t.help t.game.now.rules (story t.game.now).last.side

-- the game after the line
abbrev pub at : Task → List Position → Story
at t ps = Lines.along (story t.game.now) ps

abbrev pub AreSound : Task → List Position → Type 0
AreSound t ps = Lines.AreSound t.game.now.rules ps

-- the line leads to the last of the earlier steps, and each part of it to the last one of its ply
abbrev pub IsLineTo : Task → List Step → List Position → Type 0
IsLineTo t earlier ps = Lines.IsPathTo (games t) (story t.game.now) earlier ps

-- ---- searches after the line

abbrev pub legal_at : Task → List Position → List Move
legal_at t ps = (games t).moves (at t ps)

-- each of the moves is legal there
abbrev pub AreLegal : Task → List Position → List Move → Type 0
AreLegal t ps ms = (m : Move) → Member m ms → Member m (legal_at t ps)

-- the steps that a plain search finds with so many plies left
abbrev pub found_at : Task → ℕ → List Position → Option (List Step)
found_at t plies ps = found (games t) plies (length ps) (at t ps)

-- by the move, with so many plies left after it
abbrev pub followed_at : Task → ℕ → List Position → Move → Option (List Step)
followed_at t plies ps m = followed (games t) plies (length ps) (at t ps) m
