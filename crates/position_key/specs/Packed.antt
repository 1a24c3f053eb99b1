-- Repeats in fewer bytes.
use Rattle.std.specs.Prelude.{◌≡◌, ℕ, List, Option}
use Rattle.rules_model.specs.declared.board.Cell.{Cell}
use Rattle.rules_model.specs.declared.board.Repeat.{Repeat}
use Rattle.position_key.specs.declared.rest.Rest.{Rest}
use Rattle.position_key.specs.Cells.{HoldCells}
use Rattle.position_key.specs.Key.{key_of}

-- a repeat without its board
abbrev pub rest_of : Repeat → Rest
rest_of r = record { hands = r.hands; gates = r.gates; rights = r.rights; checks = r.checks; ep = r.ep; side = r.side }

-- a repeat from its board and the rest
abbrev pub repeat_with : List (Option Cell) → Rest → Repeat
repeat_with cells rest =
    record {
      cells = cells;
      hands = rest.hands;
      gates = rest.gates;
      rights = rest.rights;
      checks = rest.checks;
      ep = rest.ep;
      side = rest.side;
    }

-- the words hold the board, and the hash is the repeat's key
pub record IsPacked (hash : ℕ) (words : List ℕ) (cells : List (Option Cell)) (rest : Rest) : Type 0 where
  pub hold : HoldCells words cells
  pub hashed : hash ≡ key_of (repeat_with cells rest)
