-- One key for each repeat: a sum of words, which a move changes in few places, and the rest mixed into it. Equal
-- repeats have equal keys; nothing else is owed.
use Rattle.std.specs.Prelude.{◌≡◌, ℕ, zero, suc, ◌+◌, ◌%◌, ◌^◌, List, Option, slice_index}
use Rattle.rules_model.specs.declared.board.Cell.{Cell}
use Rattle.rules_model.specs.declared.board.Repeat.{Repeat}
use Rattle.rules_model.specs.declared.board.Side.{Side}
use Rattle.rules_model.specs.declared.board.Side.TheVariants.{White, Black}
use Rattle.rules_model.specs.Hands.{hand_of}
use Rattle.rules_model.specs.Squares.{cell_at}
use Rattle.position_key.specs.declared.board_key.BoardKey.{BoardKey}
use Rattle.position_key.specs.Words.{folded, word, cell_word, hand_word, rest_number}

-- the sum of what the numbers below n are worth
unfoldable pub sum_below : (ℕ → ℕ) → ℕ → ℕ
sum_below worth zero = 0
sum_below worth (suc n) = sum_below worth n + worth n

-- the words of what stands on the squares
abbrev pub cells_sum : List (Option Cell) → ℕ
cells_sum cells = sum_below (λ s. cell_word s (cell_at cells s)) 120

-- the words of what a side holds
abbrev pub hand_sum : Side → List ℕ → ℕ
hand_sum side hand = sum_below (λ kind. hand_word side kind (slice_index hand kind)) 26

abbrev pub hands_sum : List (List ℕ) → ℕ
hands_sum hands = hand_sum White (hand_of hands White) + hand_sum Black (hand_of hands Black)

-- the key of a board and its hands
unfoldable pub board_key : List (Option Cell) → List (List ℕ) → ℕ
board_key cells hands = (cells_sum cells + hands_sum hands) % 2 ^ 64

-- the key is that of the repeat's board and hands
abbrev pub IsBoardKey : BoardKey → Repeat → Type 0
IsBoardKey key r = key.0 ≡ board_key r.cells r.hands

-- the key of all that a repetition compares, below 2^64
unfoldable pub key_of : Repeat → ℕ
key_of r = folded ((board_key r.cells r.hands + word (rest_number r.gates r.rights r.checks r.ep r.side)) % 2 ^ 64)
