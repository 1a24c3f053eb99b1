-- The squares on which a king would stand attacked by pieces.
use Rattle.std.specs.Prelude.{◌≡◌, ℕ, Bool, true, Option, List}
use Rattle.foundation.specs.Count.{any_below}
use Rattle.rules_model.specs.declared.board.Cell.{Cell}
use Rattle.rules_model.specs.declared.board.Side.{Side}
use Rattle.rules_model.specs.declared.rules.Rules.{Rules}
use Rattle.rules_model.specs.Attacks.{attacks_from}
use Rattle.rules_model.specs.Sides.{other}
use Rattle.square_set.specs.declared.Set.{Set}
use Rattle.square_set.specs.Members.{has, IsWith, IsWithout}
use Rattle.move_tables.specs.declared.mode.Mode.TheVariants.{Take}
use Rattle.move_tables.specs.Occupied.{IsOccupied}
use Rattle.move_tables.specs.Reached.{piece_reaches}
use Rattle.attack_tables.specs.Boards.{IsBoardBy}
use Rattle.pins.specs.Guards.{IsMoved}

-- on each board that has its pieces on these squares and on one, which may be one of these, the set has that one
-- exactly where the piece reaches it to take
abbrev pub AreReachedToTake : Rules → Option Cell → ℕ → Set → Set → Type 0
AreReachedToTake rules piece from left set =
    (to : ℕ) (entered : Set) (board : List (Option Cell)) → IsWith left to entered → IsOccupied entered board
    → has set to ≡ piece_reaches rules board (record { 0 = from }) Take to piece

-- the answer is whether pieces of the other side attack the square on each board that is this one once a king of the
-- side has gone there from its square and taken what stood there
abbrev pub IsDangerAt : Rules → Side → List (Option Cell) → ℕ → Set → Set → ℕ → Bool → Type 0
IsDangerAt rules side cells king enemies occupied to answer =
    (men moved : Set) (board : List (Option Cell)) → IsWithout enemies to men → IsMoved occupied king to moved
    → IsBoardBy (other side) cells men moved board
    → answer ≡ any_below (attacks_from rules board (other side) to) 120

-- the set has a square exactly where a king that went there would be attacked so
abbrev pub AreDangers : Rules → Side → List (Option Cell) → ℕ → Set → Set → Set → Type 0
AreDangers rules side cells king enemies occupied set =
    (to : ℕ) → IsDangerAt rules side cells king enemies occupied to (has set to)

-- the same of the targets; of other squares the set says nothing
abbrev pub AreDangersAmong : Rules → Side → List (Option Cell) → ℕ → Set → Set → Set → Set → Type 0
AreDangersAmong rules side cells king enemies occupied targets set =
    (to : ℕ) → has targets to ≡ true → IsDangerAt rules side cells king enemies occupied to (has set to)
