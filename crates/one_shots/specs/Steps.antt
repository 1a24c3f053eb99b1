-- One move of a random game.
use Rattle.std.specs.Prelude.{◌≡◌, ℕ, suc, ◌%◌, Bool, true, false, List, [], length, slice_get, Option, Some, None}
use Rattle.rand_pcg.specs.Lcg.{Lcg}
use Rattle.rand_pcg.specs.Pcg.{pcg32}
use Rattle.rules_model.specs.declared.moves.Move.{Move}
use Rattle.game_play.specs.Played.{Played}
use Rattle.one_shots.specs.Generate.{random_game}

-- a word of the generator picks this move of the list; none of an empty list
abbrev pub IsPicked : List Move → Lcg → Lcg → Option Move → Type 0
IsPicked moves generator generator' (Some m) =
    (slice_get moves ((pcg32 generator).0 % length moves) ≡ Some m) × (generator' ≡ (pcg32 generator).1)
IsPicked moves generator generator' None = moves ≡ []

-- a move was played, and the game goes on from it; or none was, and the game is what it would be after more moves
abbrev pub PlaysOne : Lcg → Lcg → Played → Played → Bool → Type 0
PlaysOne generator generator' game game' true =
    (plies : ℕ) → random_game (suc plies) generator game ≡ random_game plies generator' game'
PlaysOne generator generator' game game' false = (plies : ℕ) → random_game (suc plies) generator game ≡ game'
