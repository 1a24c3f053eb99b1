-- The pocket: the pieces in the hands.
use Rattle.std.specs.Prelude.{ℕ, ◌+◌, ◌-◌, Bool, ◌&&◌, ◌||◌, not, ◌==◌, List, [], ◌∷◌, Option, Some, None, Result, Ok, Err, if◌then◌else◌, length, take, slice_index, replicate, map, count_by}
use Rattle.std.specs.List.{list_all, range_with_len}
use Rattle.rules_model.specs.declared.rules.Rules.{Rules}
use Rattle.rules_model.specs.Kinds.{has_kind, is_king}
use Rattle.rules_model.specs.Sound.{has_hands}
use Rattle.fen_model.specs.declared.fault.FenFault.{FenFault}
use Rattle.fen_model.specs.declared.fault.FenFault.TheVariants.{Pocket}
use Rattle.fen_model.specs.Fields.{says_none}
use Rattle.fen_model.specs.Tokens.{is_letter, letter_kind}

-- what stands between the brackets; a pocket that is not there is empty
abbrev pub inside_of : List ℕ → Option (List ℕ)
inside_of [] = Some []
inside_of (b ∷ bs) = if b == 91 && slice_index bs (length bs - 1) == 93 then Some (take (length bs - 1) bs) else None

-- a letter of a kind of the variant that is not the king
abbrev pub is_hand_letter : Rules → ℕ → Bool
is_hand_letter rules b = is_letter b && has_kind rules (letter_kind b) && not (is_king rules (letter_kind b))

-- how often each of 26 letters stands there, the first with this code
abbrev pub counts_from : ℕ → List ℕ → List ℕ
counts_from first letters = map (λ k. count_by (λ c. c == first + k) letters) (range_with_len 0 26)

-- the hands of these letters: the upper case ones are White's
abbrev pub hands_said : List ℕ → List (List ℕ)
hands_said letters = counts_from 65 letters ∷ counts_from 97 letters ∷ []

unfoldable pub no_hands : List (List ℕ)
no_hands = replicate 2 (replicate 26 0)

abbrev pub hands_inside : Rules → Option (List ℕ) → Result (List (List ℕ)) FenFault
hands_inside rules None = Err Pocket
hands_inside rules (Some inside) =
    if length inside == 0 || says_none inside then Ok no_hands
    else if has_hands rules && list_all (is_hand_letter rules) inside then Ok (hands_said inside)
    else Err Pocket

-- the hands that a pocket says: in a variant without hands it is missing or empty
unfoldable pub hands_of : Rules → List ℕ → Result (List (List ℕ)) FenFault
hands_of rules pocket = hands_inside rules (inside_of pocket)
