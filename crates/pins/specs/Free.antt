-- The squares from which a piece may go anywhere and leave no king attacked.
use Rattle.std.specs.Prelude.{◌≡◌, ℕ, ◌<◌, true, false, Option, List}
use Rattle.foundation.specs.Count.{any_below}
use Rattle.rules_model.specs.declared.board.Cell.{Cell}
use Rattle.rules_model.specs.declared.board.Kind.{Kind}
use Rattle.rules_model.specs.declared.board.Side.{Side}
use Rattle.rules_model.specs.declared.rules.Rules.{Rules}
use Rattle.rules_model.specs.Attacks.{attacks, attacks_from, is_own_king, king_attacked, king_faces}
use Rattle.rules_model.specs.Sides.{other}
use Rattle.rules_model.specs.Squares.{cell_at}
use Rattle.square_set.specs.declared.Set.{Set}
use Rattle.square_set.specs.Members.{has, IsWithout}
use Rattle.move_tables.specs.declared.mode.Mode.TheVariants.{Take}
use Rattle.move_tables.specs.Occupied.{AreKings}
use Rattle.move_tables.specs.Reached.{reaches_as}
use Rattle.attack_tables.specs.Boards.{IsBoardBy}
use Rattle.pins.specs.Guards.{IsMoved}

-- what holds of each board, as it is known by its sets, once a piece left a square outside the set, wherever it went,
-- and took what stood there
abbrev pub AfterMoves : Side → List (Option Cell) → Set → Set → Set → (List (Option Cell) → Type 0) → Type 0
AfterMoves by cells enemies occupied guards Holds =
    (from to : ℕ) (men moved : Set) (board : List (Option Cell)) → from < 128 → has guards from ≡ false
    → IsWithout enemies to men → IsMoved occupied from to moved → IsBoardBy by cells men moved board → Holds board

-- ---- who does not attack the king of the other side on its square

-- the kind from a square
abbrev pub KindSpares : Rules → Side → Kind → ℕ → ℕ → List (Option Cell) → Type 0
KindSpares rules by kind from king board = reaches_as rules board by kind (record { 0 = from }) Take king ≡ false

-- what stands on a square, where it is still this
abbrev pub PieceSpares : Rules → Side → ℕ → ℕ → Option Cell → List (Option Cell) → Type 0
PieceSpares rules by king from piece board = cell_at board from ≡ piece → attacks_from rules board by king from ≡ false

-- the pieces of the side
abbrev pub PiecesSpare : Rules → Side → ℕ → List (Option Cell) → Type 0
PiecesSpare rules by king board = any_below (attacks_from rules board by king) 120 ≡ false

-- the side's king that may stand on a square and flies
abbrev pub IsNotFaced : Rules → Side → ℕ → ℕ → List (Option Cell) → Type 0
IsNotFaced rules by king from board =
    is_own_king rules (other by) (cell_at board king) ≡ true → king_faces rules board by king from ≡ false

abbrev pub KingSpares : Rules → Side → ℕ → ℕ → Option Cell → List (Option Cell) → Type 0
KingSpares rules by king from piece board = cell_at board from ≡ piece → IsNotFaced rules by king from board

abbrev pub KingsSpare : Rules → Side → ℕ → List (Option Cell) → Type 0
KingsSpare rules by king board = (from : ℕ) → from < 120 → IsNotFaced rules by king from board

-- the side as a whole
abbrev pub SideSpares : Rules → Side → ℕ → List (Option Cell) → Type 0
SideSpares rules by king board =
    is_own_king rules (other by) (cell_at board king) ≡ true → attacks rules board by king ≡ false

-- ---- the whole

-- a piece that goes from a square of the set leaves no king of the side attacked: on each board that is this one after
-- the move of a piece other than a king, which takes what stands on its target
abbrev pub IsFree : Rules → Side → List (Option Cell) → Set → Set → Set → Set → Type 0
IsFree rules side cells kings enemies occupied free =
    (from to : ℕ) (men moved : Set) (board : List (Option Cell)) → has free from ≡ true
    → IsWithout enemies to men → IsMoved occupied from to moved → IsBoardBy (other side) cells men moved board
    → AreKings rules side board kings → king_attacked rules board side ≡ false
