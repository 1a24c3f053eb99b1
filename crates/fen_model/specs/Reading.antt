-- What a text says as a whole (FEN, Forsyth-Edwards notation, as Fairy-Stockfish extends it for variants).
use Rattle.std.specs.Prelude.{◌≡◌, ℕ, ◌+◌, max, nat_lt, ◌&&◌, not, List, Option, Result, Ok, Err, if◌then◌else◌}
use Rattle.rules_model.specs.declared.board.Cell.{Cell}
use Rattle.rules_model.specs.declared.board.Position.{Position}
use Rattle.rules_model.specs.declared.board.Side.{Side}
use Rattle.rules_model.specs.declared.board.Side.TheVariants.{White, Black}
use Rattle.rules_model.specs.declared.board.Square.{Square}
use Rattle.rules_model.specs.declared.rules.Rules.{Rules}
use Rattle.rules_model.specs.Attacks.{king_attacked}
use Rattle.rules_model.specs.Ends.{pieces_of}
use Rattle.rules_model.specs.Repeats.{repeat_of}
use Rattle.rules_model.specs.Sides.{other}
use Rattle.rules_model.specs.Sound.{has_its_king}
use Rattle.fen_model.specs.declared.fault.FenFault.{FenFault}
use Rattle.fen_model.specs.declared.fault.FenFault.TheVariants.{Kings, OpponentAttacked, TooMany}
use Rattle.fen_model.specs.Chain.{◌>>=◌}
use Rattle.fen_model.specs.Fields.{Fields, fields_of}
use Rattle.fen_model.specs.Board.{cells_of}
use Rattle.fen_model.specs.Pocket.{hands_of}
use Rattle.fen_model.specs.declared.held.Held.{Held}
use Rattle.fen_model.specs.Held.{held_of}
use Rattle.fen_model.specs.Passed.{passed_of}
use Rattle.fen_model.specs.Counts.{side_of, checks_of, count_of}

abbrev pub position_with : List (Option Cell) → List (List ℕ) → Side → Held → Option Square → List ℕ → ℕ → ℕ → Position
position_with cells hands side held ep checks counter number = record {
  cells = cells;
  hands = hands;
  gates = held.gates;
  counter = counter;
  number = number;
  rights = held.rights;
  checks = checks;
  ep = ep;
  side = side;
}

-- the position, where each side has its king, there are at most 240 pieces, and the king of the side that is not to
-- move stands unattacked
unfoldable pub judged : Rules → Position → Result Position FenFault
judged rules p =
    if not (has_its_king rules p.cells White && has_its_king rules p.cells Black) then Err Kings
    else if nat_lt 240 (pieces_of (repeat_of p) White + pieces_of (repeat_of p) Black) then Err TooMany
    else if king_attacked rules p.cells (other p.side) then Err OpponentAttacked
    else Ok p

-- the position that the fields say; a number 0 is read as 1
unfoldable pub said_by : Rules → Fields → Result Position FenFault
said_by rules fields = do
  cells ← cells_of rules fields.board
  hands ← hands_of rules fields.pocket
  side ← side_of fields.side
  held ← held_of rules cells fields.rights
  ep ← passed_of rules cells side fields.ep
  checks ← checks_of fields.checks
  counter ← count_of fields.halfmoves
  number ← count_of fields.number
  judged rules (position_with cells hands side held ep checks counter (max number 1))

-- the position that a text says, or its first fault
unfoldable pub fen_of : Rules → List ℕ → Result Position FenFault
fen_of rules text = do
  fields ← fields_of rules text
  said_by rules fields

-- the text says the position
abbrev pub Fen : Rules → List ℕ → Position → Type 0
Fen rules text p = fen_of rules text ≡ Ok p

-- the text says none, and this is its first fault
abbrev pub FenBad : Rules → List ℕ → FenFault → Type 0
FenBad rules text fault = fen_of rules text ≡ Err fault
