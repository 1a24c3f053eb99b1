-- The spots of a variant's tables, and the regions within which its kinds go.
use Rattle.std.specs.Prelude.{◌≡◌, ℕ, ◌+◌, ◌*◌, ◌/◌, ◌%◌, ◌<◌, Bool, true, false, ◌&&◌, ◌||◌, not, ◌==◌, if◌then◌else◌, Option, List, [], ◌∷◌, slice_index_or, length, ℤ, pos, negsuc}
use Rattle.std.specs.List.{list_any}
use Rattle.rules_model.specs.declared.board.Cell.{Cell}
use Rattle.rules_model.specs.declared.board.Kind.{Kind}
use Rattle.rules_model.specs.declared.board.Region.{Region}
use Rattle.rules_model.specs.declared.board.Side.{Side}
use Rattle.rules_model.specs.declared.board.Side.TheVariants.{White, Black}
use Rattle.rules_model.specs.declared.board.Square.{Square}
use Rattle.rules_model.specs.declared.rules.Rules.{Rules}
use Rattle.rules_model.specs.declared.rules.Term.{Term}
use Rattle.rules_model.specs.declared.rules.Way.TheVariants.{Leap}
use Rattle.rules_model.specs.Movement.{in_mobility, is_straight, reaches_by}
use Rattle.square_set.specs.declared.Set.{Set}
use Rattle.square_set.specs.Members.{has}
use Rattle.move_tables.specs.declared.mode.Mode.{Mode}
use Rattle.move_tables.specs.declared.mode.Mode.TheVariants.{Quiet, Take}
use Rattle.move_tables.specs.declared.spot.Spot.{Spot}
use Rattle.move_tables.specs.Lines.{by_parts, by_spot}
use Rattle.move_tables.specs.Occupied.{IsOccupied}
use Rattle.move_tables.specs.Reached.{reaches_as, serves}

-- ---- terms

-- a leap of one rank forward that takes
abbrev pub diagonal : ℤ → Term
diagonal dx = record { dx = dx; dy = pos 1; way = Leap; limit = 1; quiet = false; takes = true }

-- the pawn's two diagonals as such leaps
abbrev pub diagonals : List Term
diagonals = diagonal (pos 1) ∷ diagonal (negsuc 0) ∷ []

-- the term is of the mode, and goes along the file where the piece is held back
abbrev pub is_used : Mode → Bool → Term → Bool
is_used mode held term = serves mode term && (not held || is_straight term)

-- ---- what a spot reaches on each board, by the squares that are occupied there

-- the parts reach what the terms do that pass the test
abbrev pub IsOfTerms : Rules → Side → (Term → Bool) → List Term → Square → Spot → Type 0
IsOfTerms rules side test terms from spot =
    (occupied : Set) (cells : List (Option Cell)) → IsOccupied occupied cells → (t : ℕ) → t < 128
    → by_parts spot occupied t ≡ list_any (reaches_by rules cells side test from t) terms

-- the spot reaches what the kind does
abbrev pub IsOfKind : Rules → Side → Kind → Square → Mode → Spot → Type 0
IsOfKind rules side kind from mode spot =
    (occupied : Set) (cells : List (Option Cell)) → IsOccupied occupied cells → (t : ℕ)
    → by_spot spot occupied t ≡ reaches_as rules cells side kind from mode t

-- ---- their places

abbrev pub side_of : ℕ → Side
side_of n = if n == 0 then White else Black

abbrev pub mode_number : Mode → ℕ
mode_number Quiet = 0
mode_number Take = 1

abbrev pub mode_of : ℕ → Mode
mode_of n = if n == 0 then Quiet else Take

-- the place of the spot of a kind, by the number of its side, in a mode
abbrev pub spot_place : ℕ → ℕ → ℕ → ℕ → ℕ
spot_place side kind mode from = ((side * 26 + kind) * 2 + mode) * 120 + from

-- the spot at a place is that of its kind
abbrev pub IsSpotAt : Rules → ℕ → Spot → Type 0
IsSpotAt rules i spot =
    IsOfKind rules (side_of (i / 6240)) (record { 0 = i / 240 % 26 }) (record { 0 = i % 120 })
    (mode_of (i / 120 % 2)) spot

-- a spot for each side, kind, mode and square, in this order
pub record AreSpots (rules : Rules) (spots : List Spot) : Type 0 where
  pub whole : length spots ≡ 12480
  pub each : (i : ℕ) → i < 12480 → (d : Spot) → IsSpotAt rules i (slice_index_or spots i d)

-- ---- regions

abbrev pub lies_in : Region → ℕ → Bool
lies_in region t = slice_index_or region.squares t false

-- the region at a place is that of its side and kind
abbrev pub IsRegionAt : Rules → ℕ → Set → Type 0
IsRegionAt rules i set = (t : ℕ) → has set t ≡ in_mobility rules (side_of (i / 26)) (record { 0 = i % 26 }) t

-- a region for each side and kind, in this order
pub record AreRegions (rules : Rules) (sets : List Set) : Type 0 where
  pub whole : length sets ≡ 52
  pub each : (i : ℕ) → i < 52 → (d : Set) → IsRegionAt rules i (slice_index_or sets i d)
