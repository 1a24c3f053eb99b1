-- Lists of moves by their texts.
use Rattle.std.specs.Prelude.{◌≡◌, List}
use Rattle.foundation.specs.Member.{Member}
use Rattle.rules_model.specs.declared.moves.Move.{Move}
use Rattle.rules_model.specs.Moves.{IsFitMove}
use Rattle.rules_model.specs.MoveText.{text_of}

-- the moves are moves on the largest board
abbrev pub AreFit : List Move → Type 0
AreFit ms = (m : Move) → Member m ms → IsFitMove m

-- no two of the moves have one text
abbrev pub TextsDiffer : List Move → Type 0
TextsDiffer ms = (x y : Move) → Member x ms → Member y ms → text_of x ≡ text_of y → x ≡ y
