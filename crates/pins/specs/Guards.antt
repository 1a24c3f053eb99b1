-- The pieces that keep an attack from a square, by the squares that are occupied.
use Rattle.std.specs.Prelude.{◌≡◌, ℕ, ◌<◌, ◌≤◌, nat_lt, Bool, false, ◌&&◌, ◌||◌, not, ◌==◌, Option, List}
use Rattle.rules_model.specs.declared.board.Cell.{Cell}
use Rattle.square_set.specs.declared.Set.{Set}
use Rattle.square_set.specs.Members.{has, place, size}
use Rattle.move_tables.specs.Occupied.{IsOccupied}

-- the set after a piece went from the one square to the other
abbrev pub IsMoved : Set → ℕ → ℕ → Set → Type 0
IsMoved old from to new = (s : ℕ) → has new s ≡ ((has old s && not (s == from)) || (s == to))

-- the test fails of the occupied squares once a piece left a square outside the set, wherever it went
abbrev pub Guards : (Set → Bool) → Set → Set → Type 0
Guards test occupied guards =
    (from to : ℕ) (new : Set) → from < 128 → has guards from ≡ false → IsMoved occupied from to new → test new ≡ false

-- what holds of each board with these occupied squares once a piece left a square outside the set, wherever it went
abbrev pub AfterLeaving : Set → Set → (List (Option Cell) → Type 0) → Type 0
AfterLeaving occupied guards Holds =
    (from to : ℕ) (moved : Set) (board : List (Option Cell)) → from < 128 → has guards from ≡ false
    → IsMoved occupied from to moved → IsOccupied moved board → Holds board

-- every square
abbrev pub IsAll : Set → Type 0
IsAll set = (s : ℕ) → has set s ≡ nat_lt s 128

-- the squares that pass the test and come before the target, where numbers rise or where they fall
abbrev pub AreBefore : Bool → (ℕ → Bool) → ℕ → Set → Type 0
AreBefore rising test target set =
    (s : ℕ) → s < 128 → has set s ≡ (test s && nat_lt (place rising s) (place rising target))

-- there is a blocker, and where there are at most two the square is none of them
pub record IsScreened (blockers : Set) (s : ℕ) : Type 0 where
  pub some : 0 < size blockers
  pub other : size blockers ≤ 2 → has blockers s ≡ false
