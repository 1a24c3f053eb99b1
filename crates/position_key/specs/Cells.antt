-- A board in fewer bytes: three squares in each number.
use Rattle.std.specs.Prelude.{◌≡◌, ℕ, ◌+◌, ◌*◌, ◌<◌, ◌^◌, List, [], ◌∷◌, Option, Some, None, length}
use Rattle.rules_model.specs.declared.board.Cell.{Cell}
use Rattle.rules_model.specs.declared.board.Kind.{Kind}
use Rattle.rules_model.specs.Sides.{side_index}

-- a number for each kind, and 0 for none
abbrev pub kind_code : Option Kind → ℕ
kind_code None = 0
kind_code (Some kind) = kind.0 + 1

-- a number for each piece, and 0 for none
abbrev pub cell_code : Option Cell → ℕ
cell_code None = 0
cell_code (Some cell) = (kind_code cell.origin * 256 + cell.kind.0) * 2 + side_index cell.side + 1

-- three squares in one number
abbrev pub three : Option Cell → Option Cell → Option Cell → ℕ
three a b c = (cell_code a * 2 ^ 20 + cell_code b) * 2 ^ 20 + cell_code c

-- the squares, three in each number
unfoldable pub in_threes : List (Option Cell) → List ℕ
in_threes [] = []
in_threes (a ∷ []) = []
in_threes (a ∷ b ∷ []) = []
in_threes (a ∷ b ∷ c ∷ cells) = three a b c ∷ in_threes cells

-- ---- what the numbers tell

abbrev pub IsByteKind : Option Kind → Type 0
IsByteKind None = Unit {0}
IsByteKind (Some kind) = kind.0 < 256

-- the kinds of a piece are bytes
abbrev pub IsByteCell : Option Cell → Type 0
IsByteCell None = Unit {0}
IsByteCell (Some cell) = (cell.kind.0 < 256) × IsByteKind cell.origin

abbrev pub AreByteCells : List (Option Cell) → Type 0
AreByteCells [] = Unit {0}
AreByteCells (c ∷ cs) = IsByteCell c × AreByteCells cs

-- the words hold all 120 squares
pub record HoldCells (words : List ℕ) (cells : List (Option Cell)) : Type 0 where
  pub are : words ≡ in_threes cells
  pub bytes : AreByteCells cells
  pub count : length cells ≡ 120
