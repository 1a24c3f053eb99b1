-- The sets of a board's pieces, by whose move it is.
use Rattle.std.specs.Prelude.{◌≡◌, ℕ, Bool, false, not, length, Option, Some, None, List}
use Rattle.rules_model.specs.declared.board.Cell.{Cell}
use Rattle.rules_model.specs.declared.board.Side.{Side}
use Rattle.rules_model.specs.declared.rules.Rules.{Rules}
use Rattle.rules_model.specs.Attacks.{is_own, is_own_pawn}
use Rattle.rules_model.specs.Kinds.{is_pawn}
use Rattle.rules_model.specs.Sides.{other}
use Rattle.rules_model.specs.Squares.{cell_at}
use Rattle.square_set.specs.declared.Set.{Set}
use Rattle.square_set.specs.Members.{has, OnSquares}
use Rattle.next_position.specs.declared.written.OnePut.{OnePut}
use Rattle.next_position.specs.Changed.{AgreeOutside}
use Rattle.next_position.specs.Puts.{put_on}
use Rattle.move_tables.specs.Occupied.{AreKings, AreMen, IsOccupied}
use Rattle.board_sets.specs.declared.sets.BoardSets.{BoardSets}

-- a pawn of either side
abbrev pub is_any_pawn : Rules → Option Cell → Bool
is_any_pawn rules None = false
is_any_pawn rules (Some c) = is_pawn rules c.kind

-- the set is that of the squares with a pawn, of either side
abbrev pub ArePawns : Rules → List (Option Cell) → Set → Type 0
ArePawns rules cells pawns = (s : ℕ) → has pawns s ≡ is_any_pawn rules (cell_at cells s)

-- the sets are those of the pieces and of the kings of the side, of those of the other side, and of the pawns of both
pub record AreSets (rules : Rules) (side : Side) (cells : List (Option Cell)) (sets : BoardSets) : Type 0 where
  pub own : AreMen side cells sets.own
  pub enemies : AreMen (other side) cells sets.enemies
  pub kings : AreKings rules side cells sets.kings
  pub enemy_kings : AreKings rules (other side) cells sets.enemy_kings
  pub pawns : ArePawns rules cells sets.pawns

-- the set is that of the squares with a piece of the side that is not the pawn
abbrev pub AreOwnPieces : Rules → Side → List (Option Cell) → Set → Type 0
AreOwnPieces rules side cells pieces =
    (s : ℕ) → has pieces s ≡ is_own side (λ kind. not (is_pawn rules kind)) (cell_at cells s)

-- the set is that of the squares with a pawn of the side
abbrev pub AreOwnPawns : Rules → Side → List (Option Cell) → Set → Type 0
AreOwnPawns rules side cells pawns = (s : ℕ) → has pawns s ≡ is_own_pawn rules side (cell_at cells s)

-- of each board whose sets the old ones are, and that agrees with this one outside the touched squares: the new ones
-- are those of this one
abbrev pub AreSetsAfter : Rules → Side → Set → List (Option Cell) → BoardSets → BoardSets → Type 0
AreSetsAfter rules side touched next old new =
    (before : List (Option Cell)) → AreSets rules side before old → AgreeOutside touched before next
    → AreSets rules side next new

-- of each board whose sets the old ones are, the new ones are those once one square is left and something is put on
-- another
abbrev pub AreSetsPut : Rules → Side → OnePut → BoardSets → BoardSets → Type 0
AreSetsPut rules side put old new =
    (cells : List (Option Cell)) → length cells ≡ 120 → AreSets rules side cells old
    → AreSets rules side (put_on put cells) new

-- the squares of the sets are squares of the largest board
pub record AreOnBoard (sets : BoardSets) : Type 0 where
  pub own : OnSquares sets.own
  pub enemies : OnSquares sets.enemies
  pub kings : OnSquares sets.kings
  pub enemy_kings : OnSquares sets.enemy_kings
  pub pawns : OnSquares sets.pawns

-- of each board whose sets these are, the set is that of its squares with a piece
abbrev pub IsOccupiedBy : BoardSets → Set → Type 0
IsOccupiedBy sets occupied =
    (rules : Rules) (side : Side) (cells : List (Option Cell))
    → AreSets rules side cells sets → IsOccupied occupied cells

-- of each board whose sets the old ones are, the new ones are those for the other side
abbrev pub AreTurned : BoardSets → BoardSets → Type 0
AreTurned old new =
    (rules : Rules) (side : Side) (cells : List (Option Cell))
    → AreSets rules side cells old → AreSets rules (other side) cells new

-- of each board whose sets these are, the set is that of the own pieces other than pawns
abbrev pub HoldsPieces : BoardSets → Set → Type 0
HoldsPieces sets set =
    (rules : Rules) (side : Side) (cells : List (Option Cell))
    → AreSets rules side cells sets → AreOwnPieces rules side cells set

-- and that of the own pawns
abbrev pub HoldsPawns : BoardSets → Set → Type 0
HoldsPawns sets set =
    (rules : Rules) (side : Side) (cells : List (Option Cell))
    → AreSets rules side cells sets → AreOwnPawns rules side cells set

-- the sets of a whole board are on it
abbrev pub SetsStayOnBoard : Type 0
SetsStayOnBoard =
    (rules : Rules) (side : Side) (cells : List (Option Cell)) (sets : BoardSets)
    → length cells ≡ 120 → AreSets rules side cells sets → AreOnBoard sets
