-- Betza words: a function on texts, which agrees with what a word spells and with its faults.
use Rattle.std.specs.Prelude.{ℕ, zero, suc, ◌+◌, nat_lt, List, [], ◌∷◌, Option, Some, None, Result, Ok, Err, if◌then◌else◌, length}
use Rattle.betza_text.specs.declared.fault.BetzaFault.{BetzaFault}
use Rattle.betza_text.specs.declared.fault.BetzaFault.TheVariants.{Empty, TooLong, UnknownAtom}
use Rattle.betza_text.specs.declared.part.Part.{Part}
use Rattle.betza_text.specs.PartFault.{part_fault}
use Rattle.betza_text.specs.Word.{first_part, first_length, first_terms, rest_of}
use Rattle.betza_compile.specs.Terms.{terms}
use Rattle.rules_model.specs.declared.rules.Term.{Term}

abbrev pub with_part : Part → Result (List Part) BetzaFault → Result (List Part) BetzaFault
with_part part (Ok parts) = Ok (part ∷ parts)
with_part part (Err fault) = Err fault

abbrev pub unless_bad : Option BetzaFault → Result (List Part) BetzaFault → Result (List Part) BetzaFault
unless_bad None parts = parts
unless_bad (Some fault) parts = Err fault

-- the parts of a text of at most so many bytes, which is at this place of a word after so many terms, or the first
-- fault
unfoldable pub parts_from : ℕ → ℕ → ℕ → List ℕ → Result (List Part) BetzaFault
parts_from n at before [] = Ok []
parts_from zero at before (b ∷ bs) = Err (UnknownAtom at)
parts_from (suc n) at before (b ∷ bs) =
    unless_bad (part_fault at before (b ∷ bs))
    (with_part (first_part (b ∷ bs))
    (parts_from n (at + first_length (b ∷ bs)) (before + first_terms (b ∷ bs)) (rest_of (b ∷ bs))))

-- the parts of a Betza word, or its first fault
unfoldable pub parts_of : List ℕ → Result (List Part) BetzaFault
parts_of [] = Err (Empty 0)
parts_of (b ∷ bs) = if nat_lt 64 (length (b ∷ bs)) then Err (TooLong 64) else parts_from (length (b ∷ bs)) 0 0 (b ∷ bs)

abbrev pub terms_of_parts : Result (List Part) BetzaFault → Result (List Term) BetzaFault
terms_of_parts (Ok parts) = Ok (terms parts)
terms_of_parts (Err fault) = Err fault

-- the terms of a Betza word, or its first fault
abbrev pub terms_in : List ℕ → Result (List Term) BetzaFault
terms_in word = terms_of_parts (parts_of word)
