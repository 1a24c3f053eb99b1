-- What `checkers` prints of a game.
use Rattle.std.specs.Prelude.{ℕ, List, ◌++◌, codes}
use Rattle.rules_model.specs.declared.board.Position.{Position}
use Rattle.rules_model.specs.declared.rules.Rules.{Rules}
use Rattle.game_play.specs.Played.{Played, story}
use Rattle.checkers.specs.Checkers.{checkers}
use Rattle.checkers.specs.SquareList.{listed}

abbrev pub checkers_in : Rules → Position → List ℕ
checkers_in rules p = checkers rules p.cells p.side

-- the line of a list of squares
unfoldable pub checkers_text : List ℕ → List ℕ
checkers_text squares = codes "checkers" ++ listed squares ++ codes "\n"

-- the squares of the pieces that attack the king of the side to move
abbrev pub checkers_of : Played → List ℕ
checkers_of g = checkers_text (checkers_in g.rules (story g).last)
