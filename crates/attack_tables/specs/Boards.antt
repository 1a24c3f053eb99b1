-- A board as it is known by its sets of squares. After a move these are no longer those of the cells from which the
-- sets were made.
use Rattle.std.specs.Prelude.{◌≡◌, ℕ, true, Option, List}
use Rattle.rules_model.specs.declared.board.Cell.{Cell}
use Rattle.rules_model.specs.declared.board.Side.{Side}
use Rattle.rules_model.specs.declared.rules.Rules.{Rules}
use Rattle.rules_model.specs.Attacks.{is_own, is_own_king}
use Rattle.rules_model.specs.Sides.{other}
use Rattle.rules_model.specs.Squares.{cell_at}
use Rattle.square_set.specs.declared.Set.{Set}
use Rattle.square_set.specs.Members.{has}
use Rattle.move_tables.specs.Occupied.{IsOccupied, AreMen}

-- on the squares of the set the cells hold pieces of the side
abbrev pub HoldsMen : Side → List (Option Cell) → Set → Type 0
HoldsMen side cells men = (s : ℕ) → has men s ≡ true → is_own side (λ kind. true) (cell_at cells s) ≡ true

-- the board has pieces on the occupied squares; those of the side are on the squares of its men, and they are the ones
-- that the cells hold there. What stands on the other squares of the cells does not matter
pub record IsBoardBy (side : Side) (cells : List (Option Cell)) (men occupied : Set)
    (board : List (Option Cell)) : Type 0 where
  pub squares : IsOccupied occupied board
  pub own : AreMen side board men
  pub same : (s : ℕ) → has men s ≡ true → cell_at board s ≡ cell_at cells s

-- this holds of each board that is so known
abbrev pub OnEachBoard : Side → List (Option Cell) → Set → Set → (List (Option Cell) → Type 0) → Type 0
OnEachBoard side cells men occupied Holds =
    (board : List (Option Cell)) → IsBoardBy side cells men occupied board → Holds board

-- this holds of each of them on which a king of the other side stands on the square
abbrev pub OnEachWithKing : Rules → Side → List (Option Cell) → Set → Set → ℕ → (List (Option Cell) → Type 0)
    → Type 0
OnEachWithKing rules side cells men occupied at Holds =
    OnEachBoard side cells men occupied
    (λ board. is_own_king rules (other side) (cell_at board at) ≡ true → Holds board)
