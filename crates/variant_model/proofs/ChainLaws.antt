-- What the chain of parents of a section says where the section has no fault before its start: none of its lines has a
-- fault, a piece's letter is that of its value, and no two pieces have one letter.
use Rattle.std.proofs.Common.{◌≡◌, ℕ, zero, suc, ◌+◌, ◌<◌, ◌≤◌, Bool, true, false, not, ◌&&◌, ◌||◌, List, [], ◌∷◌, Option, Some, None, Result, is_err, refl, sym, ap, ◌∙◌, arith, inl, inr, option_and_then, count_by}
use Rattle.std.specs.Prelude.{if◌then◌else◌}
use Rattle.std.specs.Option.{option_map, option_or}
use Rattle.std.specs.Str.{bytes_eq}
use Rattle.std.proofs.lemmas.Bool.{and_from, eq-eqb, cases_eq, eqb-true, false_from_ne_true, ltb-false, or_left}
use Rattle.std.proofs.lemmas.Option.{option_and_then_some}
use Rattle.std.proofs.lemmas.Slice.Eq.{bytes_eq-Decides}
use Rattle.foundation.specs.Count.{first_below, or_else}
use Rattle.rules_model.specs.declared.board.Kind.{Kind}
use Rattle.rules_model.specs.declared.rules.Rules.{Rules}
use Rattle.rules_model.specs.Kinds.{names}
use Rattle.variant_ini.specs.declared.key_line.KeyLine.{KeyLine}
use Rattle.variant_ini.specs.Section.{Section, key_line, last_value, or_here}
use Rattle.variant_ini.specs.OptionValue.{option_value, own_or, parent_place, value_within}
use Rattle.variant_options.specs.Letters.{kind}
use Rattle.variant_options.specs.LineFaults.{line_fault}
use Rattle.variant_options.specs.PieceTable.{PieceRow, pieces}
use Rattle.variant_model.specs.declared.fault.SectionFault.{SectionFault}
use Rattle.variant_model.specs.declared.fault.SectionFault.TheVariants.{DuplicateName, LetterTwice, RefusedParent}
use Rattle.variant_model.specs.Entry.{accepted, entry, fault_where, first_fault, header_fault, is_duplicate, is_refused, letter_fault, lines_fault, own_fault, parent_fault, rules_fault, unless_fault, with_key}
use Rattle.variant_model.specs.Made.{resolved}
use Rattle.variant_model.specs.PieceLetters.{gives_letter, is_given_twice, letter_in, letter_twice, letter_with, letter_within, own_lines, own_letter, piece_letter, unless_given}
use Rattle.variant_model.proofs.EntryLaws.{entry_by_fault, parent_refused}
use Rattle.variant_model.proofs.ListLemmas.{count_by-never, count_by-none, count_by-or, no_either, none_mapped}

-- ---- sections without a fault

-- a section has no fault, but perhaps one of its start
abbrev pub IsFaultless : List Section → ℕ → Type 0
IsFaultless sections place = first_fault sections place (is_refused sections) ≡ None

faultless_by : (fault : Option SectionFault) (rules answer : Result Rules SectionFault)
    → answer ≡ unless_fault fault rules → is_err answer ≡ false → fault ≡ None
faultless_by None rules answer e h = refl
faultless_by (Some fault) rules answer e h = let bad : is_err answer ≡ true = ap is_err e in cc

-- an accepted section has no fault
pub faultless : (sections : List Section) (place : ℕ) → is_refused sections place ≡ false → IsFaultless sections place
faultless sections place accepts =
    faultless_by (first_fault sections place (is_refused sections)) (accepted (resolved sections place))
    (entry sections place)
    (entry_by_fault sections place (first_fault sections place (is_refused sections)) refl) accepts

module _ (sections : List Section) (place : ℕ) (good : IsFaultless sections place) where
  below_header : option_or (own_fault (own_lines sections place)) (rules_fault (resolved sections place)) ≡ None
  below_header = (no_either (header_fault sections place (is_refused sections)) _ good).1

  own_faultless : own_fault (own_lines sections place) ≡ None
  own_faultless = (no_either (own_fault (own_lines sections place)) _ below_header).0

  pub rules_faultless : rules_fault (resolved sections place) ≡ None
  rules_faultless = (no_either (own_fault (own_lines sections place)) _ below_header).1

  lines_faultless : lines_fault (own_lines sections place) ≡ None
  lines_faultless = (no_either (lines_fault (own_lines sections place)) _ own_faultless).0

  letters_faultless : letter_fault (own_lines sections place) ≡ None
  letters_faultless = (no_either (lines_fault (own_lines sections place)) _ own_faultless).1

  no_parent_fault : parent_fault sections place (is_refused sections) ≡ None
  no_parent_fault =
      (no_either (fault_where (is_duplicate sections place) DuplicateName) _
      (no_either (header_fault sections place (is_refused sections)) _ good).0).1

  -- nor has its parent
  parent_faultless : (parent : ℕ) → parent_place sections place ≡ Some parent → IsFaultless sections parent
  parent_faultless parent is =
      faultless sections parent
      (false_from_ne_true (is_refused sections parent)
      (λ refused.
      let bad : Some RefusedParent ≡ None = sym (parent_refused sections place parent is refused) ∙ no_parent_fault in
      cc))

-- ---- the lines along the chain

-- a line with this key and value has no fault
abbrev pub IsGoodPair : List ℕ → List ℕ → Type 0
IsGoodPair key value = line_fault (key_line key value) ≡ None

same_line : (line : KeyLine) (key value : List ℕ) → bytes_eq line.key key ≡ true → Some line.value ≡ Some value
    → line ≡ key_line key value
same_line line key value e v =
    let k : line.key ≡ key = (bytes_eq-Decides line.key key).0 e in
    let w : line.value ≡ value = cc in
    λ i. record { key = k i; value = w i }

same_here : (line : KeyLine) (key value : List ℕ) (same : Bool) → bytes_eq line.key key ≡ same
    → (if same then Some line.value else None) ≡ Some value → line ≡ key_line key value
same_here line key value true e v = same_line line key value e v
same_here line key value false e v = cc

-- a value is that of a line, or was found already
pub found_or_here : (found : Option (List ℕ)) (line : KeyLine) (key value : List ℕ) (P : Type 0)
    → (found ≡ Some value → P) → (line ≡ key_line key value → P) → or_here found line key ≡ Some value → P
found_or_here (Some other) line key value P before here e = before e
found_or_here None line key value P before here e = here (same_here line key value (bytes_eq line.key key) refl e)

-- the last line with a key has no fault where none has
value_line_good : (lines : List KeyLine) (key value : List ℕ) → lines_fault lines ≡ None
    → last_value lines key ≡ Some value → IsGoodPair key value
unfolding lines_fault last_value
value_line_good [] key value good e = cc
value_line_good (line ∷ lines) key value good e =
    let parts = no_either (option_map (with_key line.key) (line_fault line)) (lines_fault lines) good in
    found_or_here (last_value lines key) line key value (IsGoodPair key value)
    (λ found. value_line_good lines key value parts.1 found)
    (λ here. ap line_fault (sym here) ∙ none_mapped (with_key line.key) (line_fault line) parts.0) e

pub own_or_inherited : (own inherited : Option (List ℕ)) (value : List ℕ) (P : Type 0) → (own ≡ Some value → P)
    → (inherited ≡ Some value → P) → own_or own inherited ≡ Some value → P
own_or_inherited (Some other) inherited value P f g e = f e
own_or_inherited None inherited value P f g e = g e

module _ (sections : List Section) (key value : List ℕ) where
  value_within_good : (n place : ℕ) → IsFaultless sections place → value_within n sections key place ≡ Some value
      → IsGoodPair key value
  unfolding value_within
  value_within_good zero place good e = cc
  value_within_good (suc n) place good e =
      own_or_inherited (last_value (own_lines sections place) key)
      (option_and_then (value_within n sections key) (parent_place sections place))
      value (IsGoodPair key value)
      (λ own. value_line_good (own_lines sections place) key value (lines_faultless sections place good) own)
      (λ inherited.
      option_and_then_some (value_within n sections key) (parent_place sections place) value inherited
      (λ parent is found. value_within_good n parent (parent_faultless sections place good parent is) found))
      e

  -- a value of a section without a fault is one of its key
  pub value_good : (place : ℕ) → IsFaultless sections place → option_value sections place key ≡ Some value
      → IsGoodPair key value
  unfolding option_value
  value_good place good e = value_within_good (place + 1) place good e

-- ---- a piece's letter is that of its value

kept_letter : (given : Bool) (k j : Kind) → (if given then None else Some k) ≡ Some j → (given ≡ false) × (k ≡ j)
kept_letter true k j e = cc
kept_letter false k j e = (refl, cc)

-- an inherited letter that a section keeps
kept : (lines : List KeyLine) (inherited : Option Kind) (k : Kind) → unless_given lines inherited ≡ Some k
    → (gives_letter lines k ≡ false) × (inherited ≡ Some k)
kept lines None k e = cc
kept lines (Some j) k e =
    let parts = kept_letter (gives_letter lines j) j k e in
    (ap (gives_letter lines) (sym parts.1) ∙ parts.0, ap (λ q. Some q) parts.1)

letter_by_value : (lines : List KeyLine) (own value : Option (List ℕ)) (letter : Option Kind) (k : Kind)
    → (letter ≡ Some k → option_and_then letter_in value ≡ Some k) → letter_with lines own letter ≡ Some k
    → option_and_then letter_in (own_or own value) ≡ Some k
letter_by_value lines (Some own) value letter k rest e = e
letter_by_value lines None value letter k rest e = rest (kept lines letter k e).1

module _ (sections : List Section) (piece : List ℕ) (k : Kind) where
  letter_within_value : (n place : ℕ) → letter_within n sections piece place ≡ Some k
      → option_and_then letter_in (value_within n sections piece place) ≡ Some k
  unfolding letter_within value_within
  letter_within_value zero place e = cc
  letter_within_value (suc n) place e =
      letter_by_value (own_lines sections place) (last_value (own_lines sections place) piece)
      (option_and_then (value_within n sections piece) (parent_place sections place))
      (option_and_then (letter_within n sections piece) (parent_place sections place)) k
      (λ inherited.
      option_and_then_some (letter_within n sections piece) (parent_place sections place) k inherited
      (λ parent is found.
      ap (λ o. option_and_then letter_in (option_and_then (value_within n sections piece) o)) is
      ∙ letter_within_value n parent found))
      e

  pub letter_of_value : (place : ℕ) → piece_letter sections place piece ≡ Some k
      → option_and_then letter_in (option_value sections place piece) ≡ Some k
  unfolding piece_letter option_value
  letter_of_value place e = letter_within_value (place + 1) place e

-- ---- one letter for two pieces

pub named : (letter : Option Kind) (k : Kind) → names letter k ≡ true → letter ≡ Some k
named None k e = cc
named (Some j) k e = ap (λ n. Some (kind n)) (eqb-true j.0 k.0 e)

pub named_itself : (letter : Option Kind) (k : Kind) → letter ≡ Some k → names letter k ≡ true
named_itself letter k e = ap (λ o. names o k) e ∙ eq-eqb k.0 k.0 refl

-- a letter that is inherited and not given away
abbrev is_kept : List KeyLine → Option Kind → Kind → Bool
is_kept lines inherited k = not (gives_letter lines k) && names inherited k

own_or_kept : (lines : List KeyLine) (own : Option (List ℕ)) (inherited : Option Kind) (k : Kind)
    → names (letter_with lines own inherited) k ≡ true
    → (names (option_and_then letter_in own) k || is_kept lines inherited k) ≡ true
own_or_kept lines (Some value) inherited k e = or_left (names (letter_in value) k) (is_kept lines inherited k) e
own_or_kept lines None inherited k e =
    let parts = kept lines inherited k (named (unless_given lines inherited) k e) in
    and_from (not (gives_letter lines k)) (names inherited k) (ap not parts.0) (named_itself inherited k parts.1)

-- at most one piece has the letter
abbrev pub IsOnce : (List ℕ → Option Kind) → Kind → Type 0
IsOnce letter k = count_by (λ piece. names (letter piece.key) k) pieces ≤ 1

none_has : (k : Kind) → IsOnce (λ piece. None) k
none_has k = omega (arith, count_by-never (λ piece. false) pieces (λ piece. refl))

-- the letters of pieces, by the section's own lines and by what it inherits
module _ (lines : List KeyLine) (inherited : List ℕ → Option Kind) (k : Kind) where
  abbrev gives : PieceRow → Bool
  gives piece = names (own_letter lines piece.key) k

  abbrev inherits : PieceRow → Bool
  inherits piece = names (inherited piece.key) k

  abbrev keeps : PieceRow → Bool
  keeps piece = is_kept lines (inherited piece.key) k

  abbrev letter : List ℕ → Option Kind
  letter piece = letter_with lines (last_value lines piece) (inherited piece)

  given_or_kept : (given : Bool) → gives_letter lines k ≡ given → IsOnce (own_letter lines) k → IsOnce inherited k
      → count_by gives pieces + count_by keeps pieces ≤ 1
  given_or_kept true e own above =
      let none : count_by keeps pieces ≡ 0 = count_by-never keeps pieces (λ piece. ap (λ b. not b && inherits piece) e)
      in
      omega (arith, own, none)
  given_or_kept false e own above =
      let none : count_by gives pieces ≡ 0 = count_by-none gives pieces e in
      let same : count_by keeps pieces ≡ count_by inherits pieces =
      ap (λ b. count_by (λ piece. not b && inherits piece) pieces) e
      in
      omega (arith, none, same, above)

  letter_once : IsOnce (own_letter lines) k → IsOnce inherited k → IsOnce letter k
  letter_once own above =
      let sum =
      count_by-or (λ piece. names (letter piece.key) k) gives keeps pieces
      (λ piece e. own_or_kept lines (last_value lines piece.key) (inherited piece.key) k e)
      in
      omega (arith, sum, given_or_kept (gives_letter lines k) refl own above)

first_none : (found : Option ℕ) (b : Bool) (n : ℕ) → or_else found b n ≡ None → (found ≡ None) × (b ≡ false)
first_none (Some k) b n e = cc
first_none None true n e = cc
first_none None false n e = (refl, refl)

none_below : (f : ℕ → Bool) (n k : ℕ) → first_below f n ≡ None → k < n → f k ≡ false
unfolding first_below
none_below f zero k e l = absurd (omega arith)
none_below f (suc n) k e l =
    let parts = first_none (first_below f n) (f n) n e in
    elim (cases_eq k n) as (λ _. f k ≡ false) [
      | inl same ↦ ap f same ∙ parts.1
      | inr other ↦ none_below f n k parts.0 (omega (arith, l, other))
    ]

own_once : (lines : List KeyLine) (k : ℕ) → letter_fault lines ≡ None → k < 26 → IsOnce (own_letter lines) (kind k)
unfolding letter_twice
own_once lines k e below =
    ltb-false 1 (count_by (λ piece. names (own_letter lines piece.key) (kind k)) pieces)
    (none_below (is_given_twice lines) 26 k (none_mapped (λ k. LetterTwice (kind k)) (letter_twice lines) e) below)

parent_once : (letter : List ℕ → ℕ → Option Kind) (parent : Option ℕ) (k : Kind)
    → ((place : ℕ) → parent ≡ Some place → IsOnce (λ piece. letter piece place) k)
    → IsOnce (λ piece. option_and_then (letter piece) parent) k
parent_once letter None k above = none_has k
parent_once letter (Some place) k above = above place refl

module _ (sections : List Section) (k : ℕ) (below : k < 26) where
  within_once : (n place : ℕ) → IsFaultless sections place
      → IsOnce (λ piece. letter_within n sections piece place) (kind k)
  unfolding letter_within
  within_once zero place good = none_has (kind k)
  within_once (suc n) place good =
      letter_once (own_lines sections place)
      (λ piece. option_and_then (letter_within n sections piece) (parent_place sections place)) (kind k)
      (own_once (own_lines sections place) k (letters_faultless sections place good) below)
      (parent_once (letter_within n sections) (parent_place sections place) (kind k)
      (λ parent is. within_once n parent (parent_faultless sections place good parent is)))

  -- no two pieces of a section without a fault have one letter
  pub letters_once : (place : ℕ) → IsFaultless sections place → IsOnce (piece_letter sections place) (kind k)
  unfolding piece_letter
  letters_once place good = within_once (place + 1) place good
