-- The squares on which the attacks on kings depend.
use Rattle.std.specs.Prelude.{◌≡◌, ℕ, ◌<◌, Bool, true, false, ◌&&◌, not, ◌==◌, Option, List}
use Rattle.foundation.specs.Count.{any_below}
use Rattle.rules_model.specs.declared.board.Cell.{Cell}
use Rattle.rules_model.specs.declared.board.Kind.{Kind}
use Rattle.rules_model.specs.declared.board.Side.{Side}
use Rattle.rules_model.specs.declared.rules.Rules.{Rules}
use Rattle.rules_model.specs.Attacks.{attacks_from, king_attacked}
use Rattle.rules_model.specs.Sides.{other}
use Rattle.rules_model.specs.Squares.{cell_at}
use Rattle.square_set.specs.declared.Set.{Set}
use Rattle.square_set.specs.Members.{has, IsWithout}
use Rattle.move_tables.specs.declared.mode.Mode.TheVariants.{Take}
use Rattle.move_tables.specs.Occupied.{AreKings, IsOccupied}
use Rattle.move_tables.specs.Reached.{reaches_as}
use Rattle.attack_tables.specs.Boards.{IsBoardBy}
use Rattle.pins.specs.Guards.{IsMoved}

-- on the squares of the first set the two others are the same
abbrev pub AgreeOn : Set → Set → Set → Type 0
AgreeOn way a b = (s : ℕ) → has way s ≡ true → has a s ≡ has b s

-- the test of the occupied squares asks of no square outside the set
abbrev pub DependsOn : (Set → Bool) → Set → Type 0
DependsOn test way = (a b : Set) → AgreeOn way a b → test a ≡ test b

-- a piece of the kind and the side on the square reaches the king's on each board that is occupied as it is now on the
-- squares of the set
abbrev pub KindDependsOn : Rules → Side → Kind → Set → ℕ → ℕ → Set → Type 0
KindDependsOn rules by kind occupied king from way =
    (later : Set) (board : List (Option Cell)) → IsOccupied later board → AgreeOn way occupied later
    → reaches_as rules board by kind (record { 0 = from }) Take king ≡ true

-- what stands on the square attacks the king's on each board on which it still stands there, and which is occupied as
-- it is now on the squares of the set
abbrev pub AttackDependsOn : Rules → Side → List (Option Cell) → Set → ℕ → ℕ → Set → Type 0
AttackDependsOn rules by cells occupied king from way =
    (later : Set) (board : List (Option Cell)) → IsOccupied later board → AgreeOn way occupied later
    → cell_at board from ≡ cell_at cells from → attacks_from rules board by king from ≡ true

-- what holds of each board, as it is known by its sets, once a piece went from a square outside `leave` to one
-- outside `enter`, and took what stood there. Where `from` is `to` it came from elsewhere, and left no square
abbrev pub AfterVainMoves : Side → List (Option Cell) → Set → Set → Set → Set → (List (Option Cell) → Type 0)
    → Type 0
AfterVainMoves by cells enemies occupied leave enter Holds =
    (from to : ℕ) (men moved : Set) (board : List (Option Cell)) → to < 120
    → (has leave from && not (from == to)) ≡ false → has enter to ≡ false → IsWithout enemies to men
    → IsMoved occupied from to moved → IsBoardBy by cells men moved board → Holds board

-- pieces of the side attack the king's square
abbrev pub PiecesAttack : Rules → Side → ℕ → List (Option Cell) → Type 0
PiecesAttack rules by king board = any_below (attacks_from rules board by king) 120 ≡ true

-- a king of the side that still has its kings on these squares is attacked
abbrev pub StaysAttacked : Rules → Side → Set → List (Option Cell) → Type 0
StaysAttacked rules side kings board = AreKings rules side board kings → king_attacked rules board side ≡ true

-- on each board that is this one after a piece other than a king left no square of `leave`, entered none of `enter`,
-- and took nothing but what stood there, a king of the side is attacked
abbrev pub AreEvasions : Rules → Side → List (Option Cell) → Set → Set → Set → Set → Set → Type 0
AreEvasions rules side cells kings enemies occupied leave enter =
    AfterVainMoves (other side) cells enemies occupied leave enter (StaysAttacked rules side kings)
