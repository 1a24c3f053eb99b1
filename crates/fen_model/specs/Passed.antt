-- The square that a pawn has passed.
use Rattle.std.specs.Prelude.{ℕ, ◌+◌, ◌-◌, ◌*◌, nat_le, Bool, ◌&&◌, List, [], ◌∷◌, Option, Some, None, Result, Ok, Err, if◌then◌else◌}
use Rattle.rules_model.specs.declared.board.Cell.{Cell}
use Rattle.rules_model.specs.declared.board.Side.{Side}
use Rattle.rules_model.specs.declared.board.Square.{Square}
use Rattle.rules_model.specs.declared.rules.Rules.{Rules}
use Rattle.rules_model.specs.Sides.{other}
use Rattle.rules_model.specs.Kinds.{board_of}
use Rattle.rules_model.specs.Attacks.{ahead, pawn_at, pawn_could_take}
use Rattle.rules_model.specs.Pawns.{is_free}
use Rattle.rules_model.specs.Sound.{lies_in, on_board}
use Rattle.fen_model.specs.declared.fault.FenFault.{FenFault}
use Rattle.fen_model.specs.declared.fault.FenFault.TheVariants.{EnPassant}
use Rattle.fen_model.specs.Fields.{says_none}
use Rattle.foundation.specs.Numbers.{number_of}

abbrev pub square_on : ℕ → Option ℕ → Option Square
square_on file None = None
square_on file (Some rank) =
    if nat_le 97 file && nat_le file 108 && nat_le 1 rank
    && nat_le rank 10 then Some (record { 0 = 12 * (rank - 1) + (file - 97) }) else None

-- the square that a text names: the letter of a file and the number of a rank
abbrev pub square_named : List ℕ → Option Square
square_named [] = None
square_named (file ∷ rank) = square_on file (number_of rank)

-- a pawn of the other side may just have passed the square: it stands in front, the square and its start are empty, and
-- the start lies in its double-step region
unfoldable pub is_passed : Rules → List (Option Cell) → Side → Square → Bool
is_passed rules cells side ep =
    on_board rules ep.0 && rules.double_step && is_free cells (Some ep.0)
    && is_free cells (ahead (board_of rules) side ep 1)
    && lies_in rules.double_region (other side) (ahead (board_of rules) side ep 1)
    && pawn_at rules cells (other side) (ahead (board_of rules) (other side) ep 1)

-- the square is kept where a pawn of the side to move could take there by its movement alone
abbrev pub passed_at : Rules → List (Option Cell) → Side → Option Square → Result (Option Square) FenFault
passed_at rules cells side None = Err EnPassant
passed_at rules cells side (Some ep) =
    if is_passed rules cells side ep then Ok (if pawn_could_take rules cells side ep then Some ep else None)
    else Err EnPassant

-- what the field says: `-` for none
unfoldable pub passed_of : Rules → List (Option Cell) → Side → List ℕ → Result (Option Square) FenFault
passed_of rules cells side text = if says_none text then Ok None else passed_at rules cells side (square_named text)
