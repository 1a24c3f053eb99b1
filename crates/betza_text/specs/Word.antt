-- What a word spells, and what is wrong with it: relations on the whole text.
use Rattle.std.specs.Prelude.{◌≡◌, ℕ, zero, suc, ◌+◌, ◌<◌, ◌≤◌, ◌⊎◌, Some, None, List, [], ◌∷◌, length, drop}
use Rattle.betza_text.specs.declared.part.Part.{Part}
use Rattle.betza_text.specs.declared.fault.BetzaFault.{BetzaFault}
use Rattle.betza_text.specs.declared.fault.BetzaFault.TheVariants.{Empty, TooLong}
use Rattle.betza_text.specs.SplitPart.{cut_of, cut_length, part_of}
use Rattle.betza_text.specs.Steps.{steps_of}
use Rattle.betza_text.specs.PartFault.{part_fault}

-- the part with which the text begins
unfoldable pub first_part : List ℕ → Part
first_part text = part_of text (cut_of text)

-- what follows it
unfoldable pub first_length : List ℕ → ℕ
first_length text = cut_length (cut_of text)

abbrev pub rest_of : List ℕ → List ℕ
rest_of text = drop (first_length text) text

-- how many terms it has
unfoldable pub first_terms : List ℕ → ℕ
first_terms text = length (steps_of (first_part text))

-- the text, which stands at this place of the word behind so many terms, is these parts one after the other, and none
-- has a fault
unfoldable pub SpelledFrom : ℕ → ℕ → List ℕ → List Part → Type 0
SpelledFrom at before text [] = text ≡ []
SpelledFrom at before text (part ∷ parts) =
    (0 < length text) × (part_fault at before text ≡ None) × (part ≡ first_part text)
    × SpelledFrom (at + first_length text) (before + first_terms text) (rest_of text) parts

-- so many parts of the text have no fault, and the next part has this one first
unfoldable pub FaultBehind : ℕ → ℕ → ℕ → List ℕ → BetzaFault → Type 0
FaultBehind zero at before text fault = (0 < length text) × (part_fault at before text ≡ Some fault)
FaultBehind (suc parts) at before text fault =
    (0 < length text) × (part_fault at before text ≡ None)
    × FaultBehind parts (at + first_length text) (before + first_terms text) (rest_of text) fault

-- the text has one to 64 bytes, and is these parts one after the other
pub record Spells (text : List ℕ) (b : List Part) : Type 0 where
  pub begins : 0 < length text
  pub short : length text ≤ 64
  pub parts : SpelledFrom 0 0 text b

-- the text has at most 64 bytes, and this is the first fault of the first part that has one
pub record HasBadPart (text : List ℕ) (fault : BetzaFault) : Type 0 where
  pub short : length text ≤ 64
  pub good : ℕ
  pub first : FaultBehind good 0 0 text fault

-- the first fault of the text, with its place
abbrev pub BetzaBad : List ℕ → BetzaFault → Type 0
BetzaBad text fault =
    ((text ≡ []) × (fault ≡ Empty 0)) ⊎ (((64 < length text) × (fault ≡ TooLong 64)) ⊎ HasBadPart text fault)
