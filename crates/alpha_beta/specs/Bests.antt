-- What a search is to find.
use Rattle.std.specs.Prelude.{◌≡◌, ℕ, List, ℤ}
use Rattle.rules_model.specs.declared.moves.Move.{Move}
use Rattle.game_play.specs.Played.{Played, story}
use Rattle.evaluation.specs.Values.{Attains, value_of}

-- the value over the root moves, and one of them that attains it
pub record IsBest (game : Played) (depth : ℕ) (roots : List Move) (value : ℤ) (best : Move) : Type 0 where
  pub value_is : value ≡ value_of game.rules depth (story game) roots
  pub attains : Attains game.rules depth (story game) roots value best
