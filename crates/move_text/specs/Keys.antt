-- The text of a move as one number.
use Rattle.std.specs.Prelude.{◌≡◌, ℕ, zero, suc, ◌+◌, ◌*◌, List, [], ◌∷◌}
use Rattle.std.specs.Ordering.{nat_cmp}
use Rattle.std.specs.Cmp.Lexicographic.{slice_cmp}
use Rattle.rules_model.specs.declared.moves.Move.{Move}
use Rattle.rules_model.specs.Moves.{IsFitMove}
use Rattle.rules_model.specs.MoveText.{text_of}

-- the digits of base 256 put after a number, of n of them those that the list lacks being 0
unfoldable pub with_digits : ℕ → ℕ → List ℕ → ℕ
with_digits number zero digits = number
with_digits number (suc n) [] = with_digits (number * 256) n []
with_digits number (suc n) (digit ∷ digits) = with_digits (number * 256 + digit) n digits

-- the bytes of a move's text as the highest of 8 digits
abbrev pub key_of : Move → ℕ
key_of m = with_digits 0 8 (text_of m)

-- two moves on the largest board compare by their keys as their texts do byte by byte
abbrev pub KeysAreInOrder : Type 0
KeysAreInOrder =
    (a b : Move) → IsFitMove a → IsFitMove b
    → nat_cmp (key_of a) (key_of b) ≡ slice_cmp nat_cmp (text_of a) (text_of b)
