-- Sound positions: those from which a game may start (FEN, with what this project asks of rights and of the en passant
-- square).
use Rattle.std.specs.Prelude.{ℕ, ◌+◌, ◌*◌, ◌/◌, ◌%◌, nat_lt, nat_le, Bool, true, false, ◌&&◌, ◌||◌, not, ◌==◌, is_none, Option, Some, None, List, count_by, slice_index}
use Rattle.foundation.specs.Count.{all_below}
use Rattle.rules_model.specs.declared.board.Cell.{Cell}
use Rattle.rules_model.specs.declared.board.Kind.{Kind}
use Rattle.rules_model.specs.declared.board.Position.{Position}
use Rattle.rules_model.specs.declared.board.Region.{Region}
use Rattle.rules_model.specs.declared.board.Repeat.{Repeat}
use Rattle.rules_model.specs.declared.board.Side.{Side}
use Rattle.rules_model.specs.declared.board.Side.TheVariants.{White, Black}
use Rattle.rules_model.specs.declared.board.Square.{Square}
use Rattle.rules_model.specs.declared.board.Wing.{Wing}
use Rattle.rules_model.specs.declared.board.Wing.TheVariants.{Kingside, Queenside}
use Rattle.rules_model.specs.declared.rules.Rules.{Rules}
use Rattle.rules_model.specs.Sizes.{has_sizes}
use Rattle.rules_model.specs.Squares.{cell_at}
use Rattle.rules_model.specs.Repeats.{repeat_of}
use Rattle.rules_model.specs.Sides.{other, side_index}
use Rattle.rules_model.specs.Kinds.{board_of, has_kind, is_king, is_pawn, masks, names, promoted_of}
use Rattle.rules_model.specs.Regions.{in_region, first_rank, castling_square}
use Rattle.rules_model.specs.Attacks.{ahead, is_own, is_own_king, king_attacked, pawn_at, pawn_could_take}
use Rattle.rules_model.specs.Hands.{holds}
use Rattle.rules_model.specs.Gates.{has_gate}
use Rattle.rules_model.specs.Castling.{castling_on, holds_right, rook_file}
use Rattle.rules_model.specs.Pawns.{is_free}
use Rattle.rules_model.specs.Ends.{pieces_of}

-- ---- pieces and hands

-- a square of the variant's board
abbrev pub on_board : Rules → ℕ → Bool
on_board rules s = nat_lt (s % 12) rules.files && nat_lt (s / 12) rules.ranks

-- an origin: the pawn's, of a kind that pawns become, where takings go to hands; or a kind whose promoted kind this is
abbrev pub is_origin : Rules → Kind → Option Kind → Bool
is_origin rules kind None = true
is_origin rules kind (Some origin) =
    (rules.to_hand && is_pawn rules origin && masks rules.promotion_kinds kind) || names (promoted_of rules origin) kind

abbrev pub is_sound_cell : Rules → ℕ → Option Cell → Bool
is_sound_cell rules s None = true
is_sound_cell rules s (Some c) = on_board rules s && has_kind rules c.kind && is_origin rules c.kind c.origin

unfoldable pub sound_at : Rules → List (Option Cell) → ℕ → Bool
sound_at rules cells s = is_sound_cell rules s (cell_at cells s)

-- the variant has hands
abbrev pub has_hands : Rules → Bool
has_hands rules = rules.drops || rules.to_hand || rules.gating

-- the side holds none of the kind, or one that a hand of the variant may hold
unfoldable pub sound_in_hand : Rules → List (List ℕ) → Side → ℕ → Bool
sound_in_hand rules hands side kind =
    not (holds hands side (record { 0 = kind }))
    || (has_hands rules && has_kind rules (record { 0 = kind }) && not (is_king rules (record { 0 = kind })))

-- with a king each side has exactly one on the board
abbrev pub has_its_king : Rules → List (Option Cell) → Side → Bool
has_its_king rules cells side = is_none rules.king || (count_by (is_own_king rules side) cells == 1)

-- ---- rights

-- the castling rook is there, and the side holds the gates of king and rook where the variant has gates
abbrev pub sound_rook : Rules → List ℕ → Side → Option ℕ → Bool
sound_rook rules gates side None = false
sound_rook rules gates side (Some file) =
    not rules.gating || (has_gate gates side rules.castle_king && has_gate gates side file)

-- a held right has castling on, its king and its rook in place, and the gates of both where the variant has gates
unfoldable pub sound_right : Rules → Repeat → Side → Wing → Bool
sound_right rules r side wing =
    not (holds_right r.rights side wing)
    || (castling_on rules && is_own_king rules side (cell_at r.cells (castling_square rules side rules.castle_king))
    && sound_rook rules r.gates side (rook_file rules r.cells side wing))

-- a held gate is on a file of the board, and an own piece that is no pawn stands on its square
unfoldable pub sound_gate : Rules → Repeat → Side → ℕ → Bool
sound_gate rules r side file =
    not (has_gate r.gates side file)
    || (rules.gating && nat_lt file rules.files
    && is_own side (λ kind. not (is_pawn rules kind)) (cell_at r.cells (12 * first_rank rules side + file)))

-- ---- en passant

abbrev pub lies_in : List Region → Side → Option ℕ → Bool
lies_in regions side None = false
lies_in regions side (Some s) = in_region regions side s

-- a pawn of the other side has just passed the square: it stands in front, the square and its start are empty, the
-- start lies in its double-step region, and a pawn of the side to move could take there by its movement alone
abbrev pub was_passed : Rules → Repeat → Square → Bool
was_passed rules r ep =
    rules.double_step && is_free r.cells (Some ep.0)
    && is_free r.cells (ahead (board_of rules) r.side ep 1)
    && lies_in rules.double_region (other r.side) (ahead (board_of rules) r.side ep 1)
    && pawn_at rules r.cells (other r.side) (ahead (board_of rules) (other r.side) ep 1)
    && pawn_could_take rules r.cells r.side ep

abbrev pub is_sound_ep : Rules → Repeat → Option Square → Bool
is_sound_ep rules r None = true
is_sound_ep rules r (Some ep) = on_board rules ep.0 && was_passed rules r ep

-- ---- the whole

unfoldable pub is_sound_side : Rules → Repeat → Side → Bool
is_sound_side rules r side =
    all_below (sound_in_hand rules r.hands side) 26 && has_its_king rules r.cells side
    && sound_right rules r side Kingside && sound_right rules r side Queenside && all_below (sound_gate rules r side) 16
    && nat_le (slice_index r.checks (side_index side)) 99
    && (rules.check_counting || (slice_index r.checks (side_index side) == 0))

-- what soundness asks of a repeat
unfoldable pub is_sound_repeat : Rules → Repeat → Bool
is_sound_repeat rules r =
    has_sizes r && all_below (sound_at rules r.cells) 120 && nat_le (pieces_of r White + pieces_of r Black) 240
    && is_sound_side rules r White && is_sound_side rules r Black
    && not (king_attacked rules r.cells (other r.side)) && is_sound_ep rules r r.ep

-- a sound position
unfoldable pub is_sound : Rules → Position → Bool
is_sound rules p =
    is_sound_repeat rules (repeat_of p) && nat_le p.counter 9999 && nat_le 1 p.number && nat_le p.number 9999
