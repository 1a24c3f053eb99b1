-- The sums of a board and of hands of which a part is written.
use Rattle.std.specs.Prelude.{◌≡◌, ℕ, ◌+◌, ◌^◌, ◌≤◌, Bool, true, ◌==◌, List, Option, length, if◌then◌else◌, slice_set, pos}
use Rattle.std.specs.List.{list_all}
use Rattle.rules_model.specs.declared.board.Cell.{Cell}
use Rattle.rules_model.specs.declared.board.Kind.{Kind}
use Rattle.rules_model.specs.declared.board.Side.{Side}
use Rattle.rules_model.specs.declared.board.Side.TheVariants.{White, Black}
use Rattle.rules_model.specs.declared.rules.Rules.{Rules}
use Rattle.rules_model.specs.Hands.{holds, in_hand, put_down}
use Rattle.rules_model.specs.Sides.{same_side}
use Rattle.rules_model.specs.Squares.{cell_at}
use Rattle.evaluation.specs.declared.tally.Tally.{Tally}
use Rattle.evaluation.specs.Evaluation.{piece_worth}
use Rattle.evaluation.specs.Tallies.{AreSums}

-- the sums are these numbers
pub record Counts (tally : Tally) (white black : ℕ) : Type 0 where
  pub white_is : tally.white ≡ pos white
  pub black_is : tally.black ≡ pos black

-- what the one side has more, of a worth that one of them has
abbrev pub share : Side → ℕ → Side → ℕ
share side worth of = if same_side side of then worth else 0

-- so small that a machine's number holds much more
abbrev pub IsSmall : ℕ → ℕ → Type 0
IsSmall white black = (white ≤ 2 ^ 40) × (black ≤ 2 ^ 40)

-- the side has so much more, or less
abbrev pub IsMore : Side → ℕ → Tally → Tally → Type 0
IsMore side worth old new =
    (white black : ℕ) → IsSmall white black → Counts old white black
    → Counts new (white + share side worth White) (black + share side worth Black)

abbrev pub IsLess : Side → ℕ → Tally → Tally → Type 0
IsLess side worth old new =
    (white black : ℕ) → Counts old (white + share side worth White) (black + share side worth Black)
    → Counts new white black

-- what stands on a square counts besides, or no longer
abbrev pub CountsPiece : Rules → ℕ → Option Cell → Tally → ℕ → ℕ → Type 0
CountsPiece rules at cell tally white black =
    Counts tally (white + piece_worth rules White at cell) (black + piece_worth rules Black at cell)

abbrev pub AddsPiece : Rules → ℕ → Option Cell → Tally → Tally → Type 0
AddsPiece rules at cell old new =
    (white black : ℕ) → IsSmall white black → Counts old white black → CountsPiece rules at cell new white black

abbrev pub DropsPiece : Rules → ℕ → Option Cell → Tally → Tally → Type 0
DropsPiece rules at cell old new =
    (white black : ℕ) → CountsPiece rules at cell old white black → Counts new white black

-- ---- boards and hands

-- a side holds at most so many of each kind
abbrev pub HoldsFew : ℕ → List (List ℕ) → Type 0
HoldsFew most hands = (side : Side) (kind : Kind) → in_hand hands side kind ≤ most

-- the sums of each board with the one piece on the square become those of the board with the other there
abbrev pub PutsOn : Rules → ℕ → Option Cell → Option Cell → Tally → Tally → Type 0
PutsOn rules at before after old new =
    (cells : List (Option Cell)) (hands : List (List ℕ)) → length cells ≡ 120 → HoldsFew 1000 hands
    → cell_at cells at ≡ before → AreSums rules cells hands old → AreSums rules (slice_set cells at after) hands new

-- the sums of a board become those of another, whatever the sides hold
abbrev pub GoesTo : Rules → List (Option Cell) → List (Option Cell) → Tally → Tally → Type 0
GoesTo rules before after old new =
    (hands : List (List ℕ)) → HoldsFew 1000 hands → AreSums rules before hands old → AreSums rules after hands new

-- ---- hands

-- hands of two sides, with a place for each letter
pub record AreHands (hands : List (List ℕ)) : Type 0 where
  pub size : length hands ≡ 2
  pub each : list_all (λ hand. length hand == 26) hands ≡ true

-- the sums with any hands become those with the hands that are made of them
abbrev pub HandStep : Rules → (List (List ℕ) → List (List ℕ)) → Tally → Tally → Type 0
HandStep rules make old new =
    (cells : List (Option Cell)) (hands : List (List ℕ)) → AreHands hands → HoldsFew 1000 hands
    → AreSums rules cells hands old → AreSums rules cells (make hands) new

-- the side puts one down, where it is told truly whether it holds one
abbrev pub PutsDown : Rules → Side → Kind → Bool → Tally → Tally → Type 0
PutsDown rules side kind held old new =
    (cells : List (Option Cell)) (hands : List (List ℕ)) → AreHands hands → held ≡ holds hands side kind
    → AreSums rules cells hands old → AreSums rules cells (put_down hands side kind) new

-- the sums with these hands become those with others, whatever stands on the board
abbrev pub HandsGoTo : Rules → List (List ℕ) → List (List ℕ) → Tally → Tally → Type 0
HandsGoTo rules before after old new =
    (cells : List (Option Cell)) → HoldsFew 1000 before → AreSums rules cells before old → AreSums rules cells after new
