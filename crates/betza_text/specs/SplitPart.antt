-- How the text of a part is cut, and what it says.
use Rattle.std.specs.Prelude.{ℕ, ◌+◌, ◌-◌, ◌*◌, ◌≤◌, Bool, not, ◌||◌, ◌&&◌, ◌==◌, nat_lt, if◌then◌else◌, Option, Some, None, List, length, take, drop, filter, take_while, position, unwrap_or, slice_index}
use Rattle.std.specs.List.{list_any}
use Rattle.betza_text.specs.declared.split_part.SplitPart.{SplitPart}
use Rattle.betza_text.specs.declared.part.HopKind.{HopKind}
use Rattle.betza_text.specs.declared.part.HopKind.TheVariants.{No, Over, Behind}
use Rattle.betza_text.specs.declared.part.Part.{Part}
use Rattle.foundation.specs.Numbers.{is_digit}
use Rattle.betza_text.specs.Letters.{is_prefix, is_direction}

-- how many bytes stand before the atom
unfoldable pub modifier_count : List ℕ → ℕ
modifier_count text = length (take_while is_prefix text)

-- the letter behind the modifiers stands twice
unfoldable pub is_doubled : List ℕ → ℕ → Bool
is_doubled text modifiers = slice_index text (modifiers + 1) == slice_index text modifiers

-- the place behind the modifiers and the one or two letters of the atom
unfoldable pub digit_place : ℕ → Bool → ℕ
digit_place modifiers doubled = modifiers + (if doubled then 2 else 1)

-- how many digits stand there
unfoldable pub digit_count : List ℕ → ℕ → ℕ
digit_count text place = length (take_while is_digit (drop place text))

abbrev pub cut_behind : List ℕ → ℕ → Bool → SplitPart
cut_behind text m d = record {
  modifiers = m;
  doubled = d;
  digits = digit_count text (digit_place m d);
}

-- the part at the beginning of a text: all modifiers that stand there, the atom, the same letter again, all digits that
-- follow
unfoldable pub cut_of : List ℕ → SplitPart
cut_of text = cut_behind text (modifier_count text) (is_doubled text (modifier_count text))

unfoldable pub number_place : SplitPart → ℕ
number_place cut = digit_place cut.modifiers cut.doubled

unfoldable pub cut_length : SplitPart → ℕ
cut_length cut = number_place cut + cut.digits

-- a cut of this text
pub record IsWithin (cut : SplitPart) (text : List ℕ) : Type 0 where
  pub modifiers : cut.modifiers ≤ length text
  pub digits : cut.digits ≤ length text

-- the number that so many digits say, of which these are the first two
unfoldable pub number_value : ℕ → ℕ → ℕ → ℕ
number_value count first second = if count == 1 then first - 48 else 10 * (first - 48) + (second - 48)

-- a number over 11, of more than two digits, or with a 0 before another digit
unfoldable pub is_bad_number : ℕ → ℕ → ℕ → Bool
is_bad_number count first second =
    not (count == 0) && (nat_lt 2 count || (count == 2 && first == 48) || nat_lt 11 (number_value count first second))

unfoldable pub number_said : ℕ → ℕ → ℕ → Option ℕ
number_said count first second =
    if count == 0 || is_bad_number count first second then None else Some (number_value count first second)

-- the letter is among the modifiers
unfoldable pub has : ℕ → List ℕ → Bool
has letter modifiers = list_any (λ c. c == letter) modifiers

-- the first place of the letter among the modifiers, 0 where it is not there
unfoldable pub place_of : ℕ → List ℕ → ℕ
place_of letter modifiers = unwrap_or (position (λ c. c == letter) modifiers) 0

-- the first place of a direction letter among them
unfoldable pub direction_place : List ℕ → ℕ
direction_place modifiers = unwrap_or (position is_direction modifiers) 0

-- `p`, `g`, or neither
unfoldable pub hop_of : List ℕ → HopKind
hop_of modifiers = if has 112 modifiers then Over else if has 103 modifiers then Behind else No

abbrev pub modifiers_of : List ℕ → SplitPart → List ℕ
modifiers_of text cut = take cut.modifiers text

abbrev pub part_with : List ℕ → List ℕ → SplitPart → Part
part_with modifiers text cut = record {
  quiet = has 109 modifiers || not (has 99 modifiers);
  takes = has 99 modifiers || not (has 109 modifiers);
  lame = has 110 modifiers;
  hop = hop_of modifiers;
  dirs = filter is_direction modifiers;
  atom = slice_index text cut.modifiers;
  doubled = cut.doubled;
  number = number_said cut.digits (slice_index text (number_place cut)) (slice_index text (number_place cut + 1));
}

-- what the part says: `m` and `c` alone, or both ways; the letters in their order; the number
unfoldable pub part_of : List ℕ → SplitPart → Part
part_of text cut = part_with (modifiers_of text cut) text cut
