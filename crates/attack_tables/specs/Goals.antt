-- Where a piece goes on a board, and kinds that take where they go quietly.
use Rattle.std.specs.Prelude.{◌≡◌, ℕ, ◌<◌, Bool, ◌&&◌, ◌||◌, not, Option, List, slice_index_or, length}
use Rattle.std.specs.Bool.{OnTrue}
use Rattle.rules_model.specs.declared.board.Cell.{Cell}
use Rattle.rules_model.specs.declared.board.Kind.{Kind}
use Rattle.rules_model.specs.declared.board.Side.{Side}
use Rattle.rules_model.specs.declared.board.Square.{Square}
use Rattle.rules_model.specs.declared.rules.Rules.{Rules}
use Rattle.rules_model.specs.declared.rules.Term.{Term}
use Rattle.square_set.specs.declared.Set.{Set}
use Rattle.square_set.specs.Members.{has}
use Rattle.move_tables.specs.declared.mode.Mode.TheVariants.{Quiet, Take}
use Rattle.move_tables.specs.Occupied.{IsOccupied}
use Rattle.move_tables.specs.Reached.{reaches_as}

-- to a square that is not occupied and is reached quietly, or to one of the enemies' that is reached to take; of a
-- pawn the enemies' squares on its two diagonals alone
abbrev pub is_goal : Rules → List (Option Cell) → Side → Kind → Square → Set → Set → ℕ → Bool
is_goal rules cells side kind from occupied enemies t =
    (reaches_as rules cells side kind from Quiet t && not (has occupied t))
    || (reaches_as rules cells side kind from Take t && has enemies t)

-- on each board with these occupied squares, the set is that of the goals
abbrev pub AreGoals : Rules → Side → Kind → Square → Set → Set → Set → Type 0
AreGoals rules side kind from occupied enemies set =
    (cells : List (Option Cell)) → IsOccupied occupied cells
    → (t : ℕ) → has set t ≡ is_goal rules cells side kind from occupied enemies t

-- the term is one of both modes
abbrev pub has_both : Term → Bool
has_both t = t.quiet && t.takes

-- a piece of the kind reaches the same squares quietly and to take, on each board
abbrev pub IsAlike : Rules → Kind → Type 0
IsAlike rules kind =
    (cells : List (Option Cell)) (side : Side) (from : Square) (t : ℕ)
    → reaches_as rules cells side kind from Quiet t ≡ reaches_as rules cells side kind from Take t

abbrev pub IsAlikeAt : Rules → ℕ → Bool → Type 0
IsAlikeAt rules i known = OnTrue known (IsAlike rules (record { 0 = i }))

-- what is known of each kind, by its number
pub record AreAlike (rules : Rules) (kinds : List Bool) : Type 0 where
  pub whole : length kinds ≡ 26
  pub each : (i : ℕ) → i < 26 → (d : Bool) → IsAlikeAt rules i (slice_index_or kinds i d)
