-- How the text of a rank is cut: into runs of adjacent digits, and letters with their marks.
use Rattle.std.specs.Prelude.{ℕ, ◌-◌, nat_le, Bool, true, false, ◌&&◌, ◌||◌, ◌==◌, List, [], ◌∷◌, if◌then◌else◌}
use Rattle.rules_model.specs.declared.board.Kind.{Kind}
use Rattle.rules_model.specs.declared.board.Side.{Side}
use Rattle.rules_model.specs.declared.board.Side.TheVariants.{White, Black}
use Rattle.foundation.specs.Numbers.{is_digit}

pub data Token : Type 0 where
  -- all digits that stand together
  run : List ℕ → Token
  -- whether a `+` stands before it, a letter, and whether a `~` stands after it
  piece : Bool → ℕ → Bool → Token
  -- a `~` after no letter
  tilde : Token
  -- a `+` before no letter, or another byte
  stray : Token

abbrev pub is_upper : ℕ → Bool
is_upper b = nat_le 65 b && nat_le b 90

abbrev pub is_lower : ℕ → Bool
is_lower b = nat_le 97 b && nat_le b 122

abbrev pub is_letter : ℕ → Bool
is_letter b = is_upper b || is_lower b

-- the side whose letter it is: White's are the upper case ones
abbrev pub letter_side : ℕ → Side
letter_side b = if is_upper b then White else Black

-- the kind that it names
abbrev pub letter_kind : ℕ → Kind
letter_kind b = record { 0 = if is_upper b then b - 65 else b - 97 }

-- a byte in front of the tokens of what follows it
abbrev pub with_digit : ℕ → List Token → List Token
with_digit d (run digits ∷ tokens) = run (d ∷ digits) ∷ tokens
with_digit d tokens = run (d ∷ []) ∷ tokens

abbrev pub with_letter : ℕ → List Token → List Token
with_letter c (tilde ∷ tokens) = piece false c true ∷ tokens
with_letter c tokens = piece false c false ∷ tokens

abbrev pub with_plus : List Token → List Token
with_plus (piece false c after ∷ tokens) = piece true c after ∷ tokens
with_plus tokens = stray ∷ tokens

abbrev pub with_byte : ℕ → List Token → List Token
with_byte b tokens =
    if is_digit b then with_digit b tokens
    else if is_letter b then with_letter b tokens
    else if b == 43 then with_plus tokens
    else if b == 126 then tilde ∷ tokens
    else stray ∷ tokens

-- the tokens of a text, from left to right
unfoldable pub tokens_of : List ℕ → List Token
tokens_of [] = []
tokens_of (b ∷ bs) = with_byte b (tokens_of bs)
