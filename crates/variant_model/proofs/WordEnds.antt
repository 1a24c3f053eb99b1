-- No Betza word without a fault ends in a carriage return, and no value of a piece.
use Rattle.std.proofs.Common.{◌≡◌, ℕ, zero, suc, ◌+◌, ◌==◌, Bool, true, false, not, is_err, nat_lt, List, [], ◌∷◌, Option, Some, None, Result, Ok, Err, drop, length, slice_index, refl, sym, ap, ◌∙◌, arith, drop-drop}
use Rattle.std.specs.Prelude.{if◌then◌else◌}
use Rattle.std.proofs.lemmas.Bool.{both_ways, eqb-true, false_from_ne_true}
use Rattle.std.proofs.lemmas.List.{get_or-drop}
use Rattle.std.proofs.lemmas.List.Folds.{length-prefix_len}
use Rattle.betza_text.specs.declared.fault.BetzaFault.{BetzaFault}
use Rattle.betza_text.specs.declared.part.Part.{Part}
use Rattle.betza_text.specs.SplitPart.{cut_length, cut_of, digit_count, digit_place, is_doubled, modifier_count, modifiers_of, number_place, part_of}
use Rattle.betza_text.specs.Letters.{is_atom, is_prefix}
use Rattle.betza_text.specs.PartFault.{atom_fault, cut_fault, modifiers_fault, part_fault}
use Rattle.betza_text.specs.Word.{first_length, first_part, first_terms, rest_of}
use Rattle.foundation.specs.Numbers.{is_digit}
use Rattle.rules_model.specs.declared.board.Kind.{Kind}
use Rattle.variant_options.specs.declared.fault.LineFault.TheVariants.{BadValue}
use Rattle.variant_options.specs.BetzaWords.{parts_from, parts_of, terms_in, terms_of_parts, unless_bad, with_part}
use Rattle.variant_options.specs.Letters.{letter_of}
use Rattle.variant_options.specs.LineFaults.{piece_fault, word_fault}
use Rattle.variant_options.specs.PieceTable.{PieceRow, PieceValue, read_piece, spelled_by}
use Rattle.variant_model.proofs.ListLemmas.{no_either}
use Rattle.variant_model.proofs.TextEnds.{Says, byte_passes, byte_says, ends_in_return, skip_ends}

-- ---- a part of a Betza word

fails_no_atom : is_atom 13 ≡ false
unfolding is_atom
fails_no_atom = refl

fails_no_prefix : is_prefix 13 ≡ false
unfolding is_prefix
fails_no_prefix = refl

-- where a text that begins with an atom ends in a return, so does what is after the one or two letters of the atom
after_atom : (text : List ℕ) (doubled : Bool) → (slice_index text 1 == slice_index text 0) ≡ doubled
    → is_atom (slice_index text 0) ≡ true → ends_in_return text ≡ true
    → ends_in_return (drop (if doubled then 2 else 1) text) ≡ true
after_atom [] doubled same atom ends = cc
after_atom (a ∷ []) doubled same atom ends =
    absurd (both_ways (a == 13) (byte_passes is_atom fails_no_atom a atom) ends)
after_atom (a ∷ b ∷ bs) false same atom ends = ends
after_atom (a ∷ b ∷ []) true same atom ends =
    let again : is_atom b ≡ true = ap is_atom (eqb-true b a same) ∙ atom in
    absurd (both_ways (b == 13) (byte_passes is_atom fails_no_atom b again) ends)
after_atom (a ∷ b ∷ c ∷ bs) true same atom ends = ends

no_fault_but : (good : Bool) (fault : BetzaFault) (others : Option BetzaFault)
    → (if not good then Some fault else others) ≡ None → good ≡ true
no_fault_but true fault others none = refl
no_fault_but false fault others none = cc

module _ (text : List ℕ) where
  -- where the part with which a text begins has no fault, the byte after its modifiers is an atom
  atom_known : (at before : ℕ) → part_fault at before text ≡ None
      → is_atom (slice_index text (modifier_count text)) ≡ true
  unfolding part_fault cut_fault atom_fault part_of cut_of
  atom_known at before none =
      let cut = cut_of text in
      let atom =
      (no_either (modifiers_fault at (modifiers_of text cut) (length (modifiers_of text cut)))
      (atom_fault at before text (modifiers_of text cut) cut (part_of text cut)) none).1
      in
      no_fault_but (is_atom (slice_index text (modifier_count text))) _ _ atom

  -- what is after its modifiers, its atom and its digits ends in a return where the text does
  module _ (ends : ends_in_return text ≡ true) where
    after_modifiers : ends_in_return (drop (modifier_count text) text) ≡ true
    unfolding modifier_count
    after_modifiers =
        ap (λ n. ends_in_return (drop n text)) (length-prefix_len is_prefix text)
        ∙ skip_ends is_prefix fails_no_prefix text ends

    abbrev place : ℕ
    place = digit_place (modifier_count text) (is_doubled text (modifier_count text))

    after_letters : is_atom (slice_index text (modifier_count text)) ≡ true → ends_in_return (drop place text) ≡ true
    unfolding digit_place is_doubled
    after_letters atom =
        let m = modifier_count text in
        let first : slice_index (drop m text) 0 ≡ slice_index text m =
        get_or-drop m text 0 0 ∙ ap (slice_index text) (omega arith) in
        let second = get_or-drop m text 1 0 in
        ap ends_in_return (sym (drop-drop (if is_doubled text m then 2 else 1) m text))
        ∙ after_atom (drop m text) (is_doubled text m) (λ i. second i == first i)
        (ap is_atom first ∙ atom) after_modifiers

    after_part : is_atom (slice_index text (modifier_count text)) ≡ true → ends_in_return (rest_of text) ≡ true
    unfolding first_length cut_length number_place cut_of digit_count
    after_part atom =
        ap ends_in_return (sym (drop-drop (digit_count text place) place text))
        ∙ ap (λ n. ends_in_return (drop n (drop place text))) (length-prefix_len is_digit (drop place text))
        ∙ skip_ends is_digit refl (drop place text) (after_letters atom)

-- ---- a word, part by part

more_parts : (fault : Option BetzaFault) (part : Part) (parts : Result (List Part) BetzaFault)
    → is_err (unless_bad fault (with_part part parts)) ≡ false → (fault ≡ None) × (is_err parts ≡ false)
more_parts None part (Ok parts) good = (refl, refl)
more_parts None part (Err fault) good = cc
more_parts (Some fault) part parts good = cc

parts_end : (n at before : ℕ) (text : List ℕ) → is_err (parts_from n at before text) ≡ false
    → ends_in_return text ≡ false
unfolding parts_from
parts_end n at before [] good = refl
parts_end zero at before (b ∷ bs) good = cc
parts_end (suc n) at before (b ∷ bs) good =
    let text : List ℕ = b ∷ bs in
    let both = more_parts (part_fault at before text) (first_part text) _ good in
    let rest = parts_end n (at + first_length text) (before + first_terms text) (rest_of text) both.1 in
    false_from_ne_true (ends_in_return text)
    (λ ends. both_ways (ends_in_return (rest_of text)) rest (after_part text ends (atom_known text at before both.0)))

short_parts : (long : Bool) (fault : BetzaFault) (parts : Result (List Part) BetzaFault)
    → word_fault (terms_of_parts (if long then Err fault else parts)) ≡ None → is_err parts ≡ false
short_parts true fault parts none = cc
short_parts false fault (Ok parts) none = refl
short_parts false fault (Err other) none = cc

-- two bytes, and a Betza word after them
word_behind : (b c : ℕ) (word : List ℕ) → word_fault (terms_in word) ≡ None → ends_in_return (b ∷ c ∷ word) ≡ false
unfolding parts_of
word_behind b c [] none = cc
word_behind b c (d ∷ ds) none =
    parts_end (length (d ∷ ds)) 0 0 (d ∷ ds) (short_parts (nat_lt 64 (length (d ∷ ds))) _ _ none)

-- ---- the value of a piece

module _ (piece : PieceRow) where
  value_read : (value : Option PieceValue) → piece_fault piece value ≡ None → Says value
  value_read None none = cc
  value_read (Some value) none = refl

  spelled_word : (is_spelled : Bool) (word : List ℕ)
      → (if is_spelled then word_fault (terms_in word) else Some BadValue) ≡ None → word_fault (terms_in word) ≡ None
  spelled_word true word none = none
  spelled_word false word none = cc

  word_good : (has_colon : Bool) (letter : Option Kind) (word : List ℕ)
      → piece_fault piece (if has_colon then spelled_by letter word else None) ≡ None
      → word_fault (terms_in word) ≡ None
  word_good true None word none = cc
  word_good true (Some letter) word none = spelled_word piece.is_spelled word none
  word_good false letter word none = cc

  pub piece_ends : (value : List ℕ) → piece_fault piece (read_piece value) ≡ None → ends_in_return value ≡ false
  piece_ends [] none = refl
  piece_ends (b ∷ []) none = byte_says (λ c. read_piece (c ∷ [])) refl b (value_read (read_piece (b ∷ [])) none)
  piece_ends (b ∷ c ∷ word) none = word_behind b c word (word_good (c == 58) (letter_of b) word none)
