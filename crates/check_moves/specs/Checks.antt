-- What is known of the checks of a position before its moves are made.
use Rattle.std.specs.Prelude.{◌≡◌, ◌≢◌, ℕ, true, false, Option, Some, None, List}
use Rattle.rules_model.specs.declared.board.Cell.{Cell}
use Rattle.rules_model.specs.declared.board.Kind.{Kind}
use Rattle.rules_model.specs.declared.board.Side.{Side}
use Rattle.rules_model.specs.declared.rules.Rules.{Rules}
use Rattle.rules_model.specs.Attacks.{king_attacked}
use Rattle.rules_model.specs.Sides.{other}
use Rattle.rules_model.specs.Squares.{cell_at}
use Rattle.square_set.specs.declared.Set.{Set}
use Rattle.square_set.specs.Members.{has}
use Rattle.move_tables.specs.declared.mode.Mode.TheVariants.{Take}
use Rattle.move_tables.specs.Occupied.{AreKings, IsOccupied}
use Rattle.move_tables.specs.Reached.{reaches_as}
use Rattle.legality.specs.Stance.{Stance}
use Rattle.check_moves.specs.declared.checks.Checks.{Checks}
use Rattle.check_moves.specs.Shut.{AreShut}

-- the kings are those of the other side, and the squares open no line to one of them
pub record AreChecks (rules : Rules) (side : Side) (cells : List (Option Cell)) (checks : Checks) : Type 0 where
  pub kings : AreKings rules (other side) cells checks.kings
  pub shut : (occupied : Set) → IsOccupied occupied cells → AreShut rules side cells occupied checks.kings checks.shut

abbrev pub AreChecksIn : Stance → Checks → Type 0
AreChecksIn s checks = AreChecks s.rules s.position.side s.position.cells checks

-- on a board with these occupied squares a piece of the kind attacks none of the squares
abbrev pub ReachesNone : Rules → Side → Kind → ℕ → Set → Set → Type 0
ReachesNone rules by kind from occupied kings =
    (board : List (Option Cell)) → IsOccupied occupied board
    → (s : ℕ) → has kings s ≡ true → reaches_as rules board by kind (record { 0 = from }) Take s ≡ false

-- the later cells are the cells once a piece of the side and the kind has left the one square for the other; one that
-- came from elsewhere left the square to which it came
pub record ComesTo (side : Side) (kind : Kind) (cells : List (Option Cell)) (from to : ℕ)
    (later : List (Option Cell)) : Type 0 where
  pub piece : Cell
  pub of_side : piece.side ≡ side
  pub of_kind : piece.kind ≡ kind
  pub there : cell_at later to ≡ Some piece
  pub left : from ≢ to → cell_at later from ≡ None
  pub others : (s : ℕ) → s ≢ from → s ≢ to → cell_at later s ≡ cell_at cells s

-- then no king of the other side is attacked
abbrev pub ComesQuietly : Rules → Side → Kind → List (Option Cell) → ℕ → ℕ → Type 0
ComesQuietly rules side kind cells from to =
    (later : List (Option Cell)) → ComesTo side kind cells from to later
    → king_attacked rules later (other side) ≡ false
