-- Where an own piece goes.
use Rattle.std.specs.Prelude.{◌≡◌, ℕ, Option, List}
use Rattle.rules_model.specs.declared.board.Cell.{Cell}
use Rattle.rules_model.specs.declared.board.Kind.{Kind}
use Rattle.rules_model.specs.declared.board.Side.{Side}
use Rattle.rules_model.specs.declared.board.Square.{Square}
use Rattle.rules_model.specs.declared.rules.Rules.{Rules}
use Rattle.rules_model.specs.Pieces.{piece_goes}
use Rattle.square_set.specs.declared.Set.{Set}
use Rattle.square_set.specs.Members.{has}

-- the set has the squares to which the side's piece of the kind goes, and no others
abbrev pub AreTargets : Rules → List (Option Cell) → Side → Kind → Square → Set → Type 0
AreTargets rules cells side kind from set = (s : ℕ) → has set s ≡ piece_goes rules cells side kind from s
