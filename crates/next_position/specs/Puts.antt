-- One square that is left, and one on which something is put.
use Rattle.std.specs.Prelude.{◌<◌, Option, Some, None, List, IfSome, slice_set}
use Rattle.rules_model.specs.declared.board.Cell.{Cell}
use Rattle.rules_model.specs.declared.board.Square.{Square}
use Rattle.next_position.specs.declared.written.OnePut.{OnePut}

-- both squares are squares of the largest board
pub record IsOnBoard (put : OnePut) : Type 0 where
  pub left : IfSome put.left (λ from. from.0 < 120)
  pub at : put.at.0 < 120

-- the board once the square is left, if there is one
abbrev pub left_by : Option Square → List (Option Cell) → List (Option Cell)
left_by None cells = cells
left_by (Some from) cells = slice_set cells from.0 None

-- the board once the one square is left, and this stands on the other
abbrev pub put_on : OnePut → List (Option Cell) → List (Option Cell)
put_on put cells = slice_set (left_by put.left cells) put.at.0 put.cell
