-- Sets of squares of a board: the occupied ones, those of a side's pieces, and those of its kings.
use Rattle.std.specs.Prelude.{◌≡◌, ℕ, true, is_some, Option, List}
use Rattle.rules_model.specs.declared.board.Cell.{Cell}
use Rattle.rules_model.specs.declared.board.Side.{Side}
use Rattle.rules_model.specs.declared.rules.Rules.{Rules}
use Rattle.rules_model.specs.Attacks.{is_own, is_own_king}
use Rattle.rules_model.specs.Squares.{cell_at}
use Rattle.square_set.specs.declared.Set.{Set}
use Rattle.square_set.specs.Members.{has}

-- the set is that of the squares with a piece
abbrev pub IsOccupied : Set → List (Option Cell) → Type 0
IsOccupied occupied cells = (s : ℕ) → has occupied s ≡ is_some (cell_at cells s)

-- the set is that of the squares with a piece of the side
abbrev pub AreMen : Side → List (Option Cell) → Set → Type 0
AreMen side cells men = (s : ℕ) → has men s ≡ is_own side (λ kind. true) (cell_at cells s)

-- the set is that of the squares with a king of the side
abbrev pub AreKings : Rules → Side → List (Option Cell) → Set → Type 0
AreKings rules side cells kings = (s : ℕ) → has kings s ≡ is_own_king rules side (cell_at cells s)
