-- Whether a side has won without another move of its own.
use Rattle.std.specs.Prelude.{Bool, false, List}
use Rattle.std.specs.List.{list_all}
use Rattle.rules_model.specs.declared.board.Side.{Side}
use Rattle.rules_model.specs.declared.moves.Move.{Move}
use Rattle.rules_model.specs.declared.rules.Rules.{Rules}
use Rattle.rules_model.specs.Games.{Story, played, result}
use Rattle.forced_wins.specs.Contests.{decided}
use Rattle.forced_wins.specs.Views.{won_by}

-- the game has ended, and the side has won it
abbrev pub is_won : Rules → Story → Side → Bool
is_won rules g a = decided (won_by a (result rules g)) false

-- each of the moves ends the game so
abbrev pub all_end_won : Rules → Story → Side → List Move → Bool
all_end_won rules g a moves = list_all (λ m. is_won rules (played rules g m) a) moves
