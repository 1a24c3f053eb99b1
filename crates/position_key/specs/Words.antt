-- Numbers for the parts of a position, and the words of 64 bits that stand for them in a key.
use Rattle.std.specs.Prelude.{ℕ, ◌+◌, ◌*◌, ◌/◌, ◌%◌, ◌^◌, bit_xor, Bool, Option, Some, None, List, slice_index}
use Rattle.foundation.specs.Tests.{one_if}
use Rattle.rules_model.specs.declared.board.Cell.{Cell}
use Rattle.rules_model.specs.declared.board.Side.{Side}
use Rattle.rules_model.specs.declared.board.Side.TheVariants.{White, Black}
use Rattle.rules_model.specs.declared.board.Square.{Square}
use Rattle.rules_model.specs.declared.board.Wing.TheVariants.{Kingside, Queenside}
use Rattle.rules_model.specs.Castling.{holds_right}
use Rattle.rules_model.specs.Sides.{side_index}

-- ---- words

-- the high half of a product depends on all of what was multiplied; this brings it down
abbrev pub folded : ℕ → ℕ
folded x = bit_xor x (x / 2 ^ 33)

-- the word of a number: the finalizer of MurmurHash3 (fmix64, by A. Appleby, in the public domain) without its first
-- fold, which changes no number below 2^33, and without its last, which is done once for the whole key
unfoldable pub word : ℕ → ℕ
word n = (folded ((n * 0xFF51_AFD7_ED55_8CCD) % 2 ^ 64) * 0xC4CE_B9FE_1A85_EC53) % 2 ^ 64

-- ---- what stands on a square

-- a number for each piece on each square, never 0. What it was promoted from is left out: equal positions have equal
-- keys without it
abbrev pub cell_number : ℕ → Cell → ℕ
cell_number s c = (c.kind.0 * 2 + side_index c.side) * 2 ^ 8 + s + 1

-- an empty square adds nothing to a key
abbrev pub cell_word : ℕ → Option Cell → ℕ
cell_word s None = 0
cell_word s (Some c) = word (cell_number s c)

-- ---- what a side holds

-- a number for each kind in each hand, above those of the pieces
abbrev pub hand_number : Side → ℕ → ℕ
hand_number side kind = 2 ^ 18 + kind * 2 + side_index side

-- a hand adds the word of a kind once for each piece of the kind
abbrev pub hand_word : Side → ℕ → ℕ → ℕ
hand_word side kind count = (count * word (hand_number side kind)) % 2 ^ 64

-- ---- the rest

abbrev pub square_number : Option Square → ℕ
square_number None = 0
square_number (Some square) = square.0 + 1

-- the four castling rights
abbrev pub rights_number : List (List Bool) → ℕ
rights_number rights =
    one_if (holds_right rights White Kingside) + 2 * one_if (holds_right rights White Queenside)
    + 4 * one_if (holds_right rights Black Kingside) + 8 * one_if (holds_right rights Black Queenside)

-- the gates, the rights, the checks left, the square of en passant and the side to move
unfoldable pub rest_number : List ℕ → List (List Bool) → List ℕ → Option Square → Side → ℕ
rest_number gates rights checks ep side =
    side_index side + 2 * rights_number rights + 2 ^ 5 * slice_index checks 0 + 2 ^ 13 * slice_index checks 1
    + 2 ^ 21 * slice_index gates 0 + 2 ^ 37 * slice_index gates 1 + 2 ^ 53 * square_number ep
