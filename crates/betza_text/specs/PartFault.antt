-- The first fault of a part, in the order in which parts are judged.
use Rattle.std.specs.Prelude.{ℕ, zero, suc, ◌+◌, max, Bool, not, ◌||◌, ◌&&◌, ◌==◌, nat_lt, if◌then◌else◌, Option, Some, None, List, length, slice_index}
use Rattle.std.specs.Option.{option_or}
use Rattle.betza_text.specs.declared.split_part.SplitPart.{SplitPart}
use Rattle.betza_text.specs.declared.fault.BetzaFault.{BetzaFault}
use Rattle.betza_text.specs.declared.fault.BetzaFault.TheVariants.{UnknownAtom, UnsupportedModifier, DoubledModifier, AmbiguousDirection, BadLame, BadHopper, BadNumber, TooManyTerms}
use Rattle.betza_text.specs.declared.part.Part.{Part}
use Rattle.betza_text.specs.Letters.{is_atom, is_once, is_direction}
use Rattle.betza_text.specs.SplitPart.{cut_of, number_place, is_bad_number, has, place_of, direction_place, modifiers_of, part_of}
use Rattle.betza_text.specs.Steps.{shape_of, is_clear, steps_of, is_far, can_be_lame}

abbrev pub letter_fault : ℕ → List ℕ → ℕ → ℕ → Option BetzaFault
letter_fault at modifiers k letter =
    if not (is_once letter) && not (is_direction letter) then Some (UnsupportedModifier (at + k))
    else if is_once letter && not (place_of letter modifiers == k) then Some (DoubledModifier (at + k))
    else None

-- what is wrong with the modifier at place k: it is none, or one of m c n p g that stands before
unfoldable pub modifier_fault : ℕ → List ℕ → ℕ → Option BetzaFault
modifier_fault at modifiers k = letter_fault at modifiers k (slice_index modifiers k)

-- the first fault of the first n modifiers
unfoldable pub modifiers_fault : ℕ → List ℕ → ℕ → Option BetzaFault
modifiers_fault at modifiers zero = None
modifiers_fault at modifiers (suc n) = option_or (modifiers_fault at modifiers n) (modifier_fault at modifiers n)

unfoldable pub is_bad_count : List ℕ → SplitPart → Bool
is_bad_count text cut =
    is_bad_number cut.digits (slice_index text (number_place cut)) (slice_index text (number_place cut + 1))

unfoldable pub is_bad_lame : Part → Bool
is_bad_lame part = part.lame && not (can_be_lame part)

-- p and g together, or one of them with an atom that goes one step
unfoldable pub is_bad_hopper : List ℕ → Part → Bool
is_bad_hopper modifiers part =
    (has 112 modifiers && has 103 modifiers) || ((has 112 modifiers || has 103 modifiers) && not (is_far part))

-- the place of the later of p and g
unfoldable pub hopper_place : List ℕ → ℕ
hopper_place modifiers = max (place_of 112 modifiers) (place_of 103 modifiers)

-- what is wrong behind the modifiers
unfoldable pub atom_fault : ℕ → ℕ → List ℕ → List ℕ → SplitPart → Part → Option BetzaFault
atom_fault at before text modifiers cut part =
    if not (is_atom part.atom) then Some (UnknownAtom (at + cut.modifiers))
    else if is_bad_count text cut then Some (BadNumber (at + number_place cut))
    else if not (is_clear (shape_of part.atom) part.dirs)
    then Some (AmbiguousDirection (at + direction_place modifiers))
    else if is_bad_lame part then Some (BadLame (at + place_of 110 modifiers))
    else if is_bad_hopper modifiers part then Some (BadHopper (at + hopper_place modifiers))
    else if nat_lt 64 (before + length (steps_of part)) then Some (TooManyTerms (at + cut.modifiers))
    else None

unfoldable pub cut_fault : ℕ → ℕ → List ℕ → SplitPart → Option BetzaFault
cut_fault at before text cut =
    option_or (modifiers_fault at (modifiers_of text cut) (length (modifiers_of text cut)))
    (atom_fault at before text (modifiers_of text cut) cut (part_of text cut))

-- the first fault of the part with which the text begins: it stands at this place of the word, behind so many terms
unfoldable pub part_fault : ℕ → ℕ → List ℕ → Option BetzaFault
part_fault at before text = cut_fault at before text (cut_of text)
