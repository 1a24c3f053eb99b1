-- The one text that is printed for a position.
use Rattle.std.specs.Prelude.{ℕ, zero, suc, ◌-◌, nat_le, Bool, false, ◌&&◌, ◌||◌, not, ◌==◌, List, [], ◌∷◌, ◌++◌, Option, Some, None, if◌then◌else◌, map, replicate, slice_index}
use Rattle.std.specs.Fmt.{decimal}
use Rattle.std.specs.List.{filter, flat_map, join_with_byte, range_with_len}
use Rattle.rules_model.specs.declared.board.Cell.{Cell}
use Rattle.rules_model.specs.declared.board.Kind.{Kind}
use Rattle.rules_model.specs.declared.board.Position.{Position}
use Rattle.rules_model.specs.declared.board.Repeat.{Repeat}
use Rattle.rules_model.specs.declared.board.Side.{Side}
use Rattle.rules_model.specs.declared.board.Side.TheVariants.{White, Black}
use Rattle.rules_model.specs.declared.board.Square.{Square}
use Rattle.rules_model.specs.declared.board.Wing.{Wing}
use Rattle.rules_model.specs.declared.board.Wing.TheVariants.{Kingside, Queenside}
use Rattle.rules_model.specs.declared.rules.Rules.{Rules}
use Rattle.rules_model.specs.Castling.{holds_right}
use Rattle.rules_model.specs.Gates.{has_gate}
use Rattle.rules_model.specs.Hands.{in_hand}
use Rattle.rules_model.specs.Kinds.{names, promoted_of}
use Rattle.rules_model.specs.MoveText.{lower, square_text, upper}
use Rattle.rules_model.specs.Repeats.{repeat_of}
use Rattle.rules_model.specs.Sound.{has_hands}
use Rattle.fen_model.specs.Board.{rows_at}
use Rattle.fen_model.specs.Fields.{no_text}
use Rattle.fen_model.specs.Held.{held_letters, right_gives}

-- ---- the placement

abbrev pub kind_letter : Side → Kind → ℕ
kind_letter White kind = upper kind
kind_letter Black kind = lower kind

abbrev pub marked_text : Rules → Cell → Option Kind → List ℕ
marked_text rules c None = kind_letter c.side c.kind ∷ []
marked_text rules c (Some origin) =
    if names (promoted_of rules origin) c.kind then 43 ∷ kind_letter c.side origin ∷ []
    else kind_letter c.side c.kind ∷ 126 ∷ []

-- a piece's letter: `+` and the origin's letter where it is the origin's promoted kind, else `~` after its own for
-- another origin
abbrev pub cell_text : Rules → Cell → List ℕ
cell_text rules c = marked_text rules c c.origin

-- the number of a run of empty squares
abbrev pub run_text : ℕ → List ℕ
run_text zero = []
run_text (suc n) = decimal (suc n)

-- the squares of a rank after so many empty ones
unfoldable pub row_text : Rules → ℕ → List (Option Cell) → List ℕ
row_text rules empty [] = run_text empty
row_text rules empty (None ∷ squares) = row_text rules (suc empty) squares
row_text rules empty (Some c ∷ squares) = run_text empty ++ cell_text rules c ++ row_text rules 0 squares

-- the ranks from the highest on, separated by `/`
unfoldable pub board_text : Rules → List (Option Cell) → List ℕ
board_text rules cells = join_with_byte 47 (map (row_text rules 0) (rows_at rules cells rules.ranks))

-- ---- the pocket

-- the letters of a hand in alphabetical order
unfoldable pub hand_text : List (List ℕ) → Side → List ℕ
hand_text hands side =
    flat_map (λ kind. replicate (in_hand hands side (record { 0 = kind })) (kind_letter side (record { 0 = kind })))
    (range_with_len 0 26)

-- White's letters and then Black's, in brackets, in each variant with hands
unfoldable pub pocket_text : Rules → List (List ℕ) → List ℕ
pocket_text rules hands =
    if has_hands rules then 91 ∷ (hand_text hands White ++ hand_text hands Black ++ 93 ∷ []) else []

-- ---- the other fields

abbrev pub side_text : Side → List ℕ
side_text White = 119 ∷ []
side_text Black = 98 ∷ []

-- the side holds the right of the wing, which gives the gate
abbrev pub right_implies : Rules → Repeat → Side → ℕ → Wing → Bool
right_implies rules r side file wing = holds_right r.rights side wing && right_gives rules r.cells side wing file

-- the side holds the gate, and no right that it holds gives it
abbrev pub prints_gate : Rules → Repeat → Side → ℕ → Bool
prints_gate rules r side file =
    has_gate r.gates side file
    && not (right_implies rules r side file Kingside || right_implies rules r side file Queenside)

-- the byte is the letter of a right or of a gate that is printed: White's rights, Black's, White's gates, Black's
unfoldable pub is_printed : Rules → Repeat → ℕ → Bool
is_printed rules r b =
    if b == 75 then holds_right r.rights White Kingside
    else if b == 81 then holds_right r.rights White Queenside
    else if b == 107 then holds_right r.rights Black Kingside
    else if b == 113 then holds_right r.rights Black Queenside
    else if nat_le 65 b && nat_le b 74 then prints_gate rules r White (b - 65)
    else if nat_le 97 b && nat_le b 106 then prints_gate rules r Black (b - 97)
    else false

abbrev pub or_none : List ℕ → List ℕ
or_none [] = no_text
or_none (b ∷ bs) = b ∷ bs

-- White's rights and then its gates by file, before Black's, or `-`
unfoldable pub rights_text : Rules → Repeat → List ℕ
rights_text rules r = or_none (filter (is_printed rules r) held_letters)

abbrev pub ep_text : Option Square → List ℕ
ep_text None = no_text
ep_text (Some s) = square_text s

-- the checks left, a field of the variants that count them
abbrev pub checks_texts : Rules → List ℕ → List (List ℕ)
checks_texts rules checks =
    if rules.check_counting then (decimal (slice_index checks 0) ++ 43 ∷ decimal (slice_index checks 1)) ∷ [] else []

-- ---- the whole

-- the side to move, the rights and the en passant square
abbrev pub state_texts : Rules → Position → List (List ℕ)
state_texts rules p = side_text p.side ∷ rights_text rules (repeat_of p) ∷ ep_text p.ep ∷ []

-- the checks left where they are counted, the halfmoves and the number
abbrev pub count_texts : Rules → Position → List (List ℕ)
count_texts rules p = checks_texts rules p.checks ++ decimal p.counter ∷ decimal p.number ∷ []

unfoldable pub field_texts : Rules → Position → List (List ℕ)
field_texts rules p =
    (board_text rules p.cells ++ pocket_text rules p.hands) ∷ (state_texts rules p ++ count_texts rules p)

-- all fields, separated by single blanks
unfoldable pub fen_text : Rules → Position → List ℕ
fen_text rules p = join_with_byte 32 (field_texts rules p)
