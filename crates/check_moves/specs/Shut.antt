-- The squares that open no line to a king.
use Rattle.std.specs.Prelude.{◌≡◌, ℕ, ◌<◌, true, false, Option, List}
use Rattle.rules_model.specs.declared.board.Cell.{Cell}
use Rattle.rules_model.specs.declared.board.Side.{Side}
use Rattle.rules_model.specs.declared.rules.Rules.{Rules}
use Rattle.rules_model.specs.Attacks.{attacks_from}
use Rattle.rules_model.specs.Squares.{cell_at}
use Rattle.square_set.specs.declared.Set.{Set}
use Rattle.square_set.specs.Members.{has}
use Rattle.move_tables.specs.Occupied.{IsOccupied}
use Rattle.pins.specs.Guards.{IsMoved}

-- what stands on a square as it does on the cells is no piece of the side that attacks the king's
abbrev pub StayersSpare : Rules → Side → List (Option Cell) → ℕ → List (Option Cell) → Type 0
StayersSpare rules by cells king board =
    (s : ℕ) → s < 120 → cell_at board s ≡ cell_at cells s → attacks_from rules board by king s ≡ false

-- a piece left a square of the set, wherever it went: what stands where it stood attacks none of the kings' squares
abbrev pub AreShut : Rules → Side → List (Option Cell) → Set → Set → Set → Type 0
AreShut rules by cells occupied kings shut =
    (from to king : ℕ) (moved : Set) (board : List (Option Cell)) → has shut from ≡ true → has kings king ≡ true
    → IsMoved occupied from to moved → IsOccupied moved board → StayersSpare rules by cells king board
