-- Hands: how many pieces of each kind a side holds (FEN of drop variants; Fairy-Stockfish's `pieceDrops`,
-- `capturesToHand`).
use Rattle.std.specs.Prelude.{ℕ, ◌+◌, ◌-◌, Bool, nat_lt, Option, Some, None, List, [], slice_index, slice_index_or, slice_set}
use Rattle.rules_model.specs.declared.board.Kind.{Kind}
use Rattle.rules_model.specs.declared.board.Side.{Side}
use Rattle.rules_model.specs.Sides.{side_index}

abbrev pub hand_of : List (List ℕ) → Side → List ℕ
hand_of hands side = slice_index_or hands (side_index side) []

-- how many of the kind the side holds
abbrev pub in_hand : List (List ℕ) → Side → Kind → ℕ
in_hand hands side kind = slice_index (hand_of hands side) kind.0

abbrev pub holds : List (List ℕ) → Side → Kind → Bool
holds hands side kind = nat_lt 0 (in_hand hands side kind)

-- the hands where the side holds n of the kind
abbrev pub with_hand : List (List ℕ) → Side → Kind → ℕ → List (List ℕ)
with_hand hands side kind n = slice_set hands (side_index side) (slice_set (hand_of hands side) kind.0 n)

-- the hands where the side has one more, and one less, of the kind
abbrev pub taken_in : List (List ℕ) → Side → Kind → List (List ℕ)
taken_in hands side kind = with_hand hands side kind (in_hand hands side kind + 1)

abbrev pub put_down : List (List ℕ) → Side → Kind → List (List ℕ)
put_down hands side kind = with_hand hands side kind (in_hand hands side kind - 1)

-- the hands after a gate: one less of the kind that was placed
abbrev pub put_at_gate : List (List ℕ) → Side → Option Kind → List (List ℕ)
put_at_gate hands side None = hands
put_at_gate hands side (Some kind) = put_down hands side kind
