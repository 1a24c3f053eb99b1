-- What a section tells of a key.
use Rattle.std.proofs.Common.{◌≡◌, ℕ, suc, ◌<◌, ◌≤◌, Bool, true, false, ◌||◌, is_some, is_none, List, [], ◌∷◌, ◌++◌, Option, Some, None, Ordering, length, get_or, map, refl, sym, ap, ◌∙◌, arith, option_and_then}
use Rattle.std.specs.Prelude.{if◌then◌else◌}
use Rattle.std.specs.declared.cmp.Ordering.TheVariants.{Less, Equal, Greater}
use Rattle.std.specs.Ordering.{nat_cmp}
use Rattle.std.specs.Cmp.Lexicographic.{slice_cmp}
use Rattle.std.specs.List.{All, find, flat_map, list_any}
use Rattle.std.specs.Option.{option_map, option_or}
use Rattle.std.specs.Str.{bytes_eq}
use Rattle.std.proofs.lemmas.Bool.{or_left, or_parts, or_right}
use Rattle.std.proofs.lemmas.List.Elements.{All-cons, All-nil}
use Rattle.std.proofs.lemmas.List.Folds.{list_any-append, list_any_at}
use Rattle.std.proofs.Math.Bool.{or-false}
use Rattle.std.proofs.lemmas.Slice.Eq.{bytes_eq-Decides}
use Rattle.rules_model.specs.declared.board.Kind.{Kind}
use Rattle.variant_ini.specs.declared.key_line.KeyLine.{KeyLine}
use Rattle.variant_ini.specs.Section.{Section, key_line, last_value, or_here}
use Rattle.variant_ini.specs.OptionValue.{option_value}
use Rattle.variant_options.specs.Keys.{all_keys, both_keys, in_order, key_inserted, ordered_keys}
use Rattle.variant_options.specs.LineFaults.{fault_with, line_fault, piece_named}
use Rattle.variant_options.specs.Options.{OptionRow, is_mobility_key, is_region_key, is_skipped, kind_from, option_kind, options, region_keys}
use Rattle.variant_options.specs.PieceTable.{PieceRow, pieces, wordless}
use Rattle.variant_options.proofs.FindLemmas.{list_any-map}
use Rattle.variant_options.proofs.KeyLemmas.{keys_long}
use Rattle.variant_model.specs.Entry.{is_refused, lines_fault, with_key}
use Rattle.variant_model.specs.PieceLetters.{letter_in, own_letter, piece_letter}
use Rattle.variant_model.specs.Told.{lacks_piece, lacks_row, line_of, told, told_of, told_value, with_value}
use Rattle.variant_model.proofs.ChainLaws.{IsGoodPair, faultless, letter_of_value, value_good}
use Rattle.variant_model.proofs.ListLemmas.{found_in, found_passes, list_any_found, not_some}

-- ---- the keys that are told

-- the key is one of some
abbrev pub is_among : List ℕ → List (List ℕ) → Bool
is_among wanted keys = list_any (λ key. bytes_eq key wanted) keys

abbrev option_keys : List OptionRow → List (List ℕ)
option_keys rows = map (λ option. option.key) rows

abbrev keys_of_regions : List PieceRow → List (List ℕ)
keys_of_regions rows = flat_map (λ piece. both_keys (region_keys piece)) rows

abbrev piece_keys : List PieceRow → List (List ℕ)
piece_keys rows = map (λ piece. piece.key) rows

or_swap : (a b c : Bool) → (a || (b || c)) ≡ (b || (a || c))
or_swap true true c = refl
or_swap true false c = refl
or_swap false true c = refl
or_swap false false c = refl

module _ (wanted : List ℕ) where
  -- a key and another one, in this order, before others
  abbrev placed : Ordering → List ℕ → List ℕ → List (List ℕ) → List (List ℕ) → List (List ℕ)
  placed order key other others rest = elim order [
    | Less ↦ key ∷ other ∷ others
    | Equal ↦ other ∷ rest
    | Greater ↦ other ∷ rest
  ]

  among_swapped : (key other : List ℕ) (others rest : List (List ℕ))
      → is_among wanted rest ≡ is_among wanted (key ∷ others)
      → is_among wanted (other ∷ rest) ≡ is_among wanted (key ∷ other ∷ others)
  among_swapped key other others rest e =
      ap (λ b. bytes_eq other wanted || b) e
      ∙ or_swap (bytes_eq other wanted) (bytes_eq key wanted) (is_among wanted others)

  among_placed : (order : Ordering) (key other : List ℕ) (others rest : List (List ℕ))
      → is_among wanted rest ≡ is_among wanted (key ∷ others)
      → is_among wanted (placed order key other others rest) ≡ is_among wanted (key ∷ other ∷ others)
  among_placed Less key other others rest e = refl
  among_placed Equal key other others rest e = among_swapped key other others rest e
  among_placed Greater key other others rest e = among_swapped key other others rest e

  among_inserted : (key : List ℕ) (keys : List (List ℕ))
      → is_among wanted (key_inserted key keys) ≡ is_among wanted (key ∷ keys)
  unfolding key_inserted
  among_inserted key [] = refl
  among_inserted key (other ∷ others) =
      among_placed (slice_cmp nat_cmp key other) key other others (key_inserted key others) (among_inserted key others)

  -- keys in byte order are the same keys
  among_in_order : (keys : List (List ℕ)) → is_among wanted (in_order keys) ≡ is_among wanted keys
  unfolding in_order
  among_in_order [] = refl
  among_in_order (key ∷ keys) =
      among_inserted key (in_order keys) ∙ ap (λ b. bytes_eq key wanted || b) (among_in_order keys)

  among_both : (keys : Option (List ℕ × List ℕ)) → is_among wanted (both_keys keys) ≡ is_region_key keys wanted
  among_both None = refl
  among_both (Some keys) = ap (λ b. bytes_eq keys.0 wanted || b) (or-false (bytes_eq keys.1 wanted))

  -- a row has the key
  abbrev has_option : List OptionRow → Bool
  has_option rows = is_some (find (λ option. bytes_eq option.key wanted) rows)

  abbrev has_region : List PieceRow → Bool
  has_region rows = list_any (λ piece. is_region_key (region_keys piece) wanted) rows

  abbrev has_piece : List PieceRow → Bool
  has_piece rows = is_some (find (λ piece. bytes_eq piece.key wanted) rows)

  among_options : (rows : List OptionRow) → is_among wanted (option_keys rows) ≡ has_option rows
  among_options rows =
      list_any-map (λ option. option.key) (λ key. bytes_eq key wanted) rows
      ∙ list_any_found (λ option. bytes_eq option.key wanted) rows

  among_pieces : (rows : List PieceRow) → is_among wanted (piece_keys rows) ≡ has_piece rows
  among_pieces rows =
      list_any-map (λ piece. piece.key) (λ key. bytes_eq key wanted) rows
      ∙ list_any_found (λ piece. bytes_eq piece.key wanted) rows

  among_regions : (rows : List PieceRow) → is_among wanted (keys_of_regions rows) ≡ has_region rows
  among_regions [] = refl
  among_regions (piece ∷ rows) =
      list_any-append (λ key. bytes_eq key wanted) (both_keys (region_keys piece)) (keys_of_regions rows)
      ∙ (λ i. among_both (region_keys piece) i || among_regions rows i)

  among_parts : (rows : List OptionRow) (table : List PieceRow)
      → is_among wanted (option_keys rows ++ keys_of_regions table ++ piece_keys table)
      ≡ ((has_option rows || has_region table) || has_piece table)
  among_parts rows table =
      let is = λ (key : List ℕ). bytes_eq key wanted in
      list_any-append is (option_keys rows ++ keys_of_regions table) (piece_keys table)
      ∙ ap (λ b. b || is_among wanted (piece_keys table))
      (list_any-append is (option_keys rows) (keys_of_regions table))
      ∙ (λ i. (among_options rows i || among_regions table i) || among_pieces table i)

  abbrev pub is_option : Bool
  is_option = has_option options

  -- the key is that of a piece
  abbrev pub is_piece : Bool
  is_piece = is_some (piece_named wanted)

  -- the keys are those of the options, of the regions of pieces, and of the pieces
  pub among_ordered : is_among wanted ordered_keys ≡ ((is_option || is_mobility_key wanted) || is_piece)
  unfolding ordered_keys all_keys
  among_ordered = among_in_order all_keys ∙ among_parts options pieces

-- ---- lines of some keys, by a value of each

or_here_other : (found : Option (List ℕ)) (line : KeyLine) (key : List ℕ) → bytes_eq line.key key ≡ false
    → or_here found line key ≡ found
or_here_other (Some value) line key e = refl
or_here_other None line key e = ap (λ b. if b then Some line.value else None) e

-- what the last line for a wanted key says, before others that say what is found
abbrev before_others : List ℕ → Option (List ℕ) → List ℕ → Option (List ℕ) → Option (List ℕ)
before_others key None wanted found = found
before_others key (Some value) wanted found = or_here found (key_line key value) wanted

last_before : (key : List ℕ) (value : Option (List ℕ)) (rest : List (List ℕ × List ℕ)) (wanted : List ℕ)
    → last_value (map line_of (with_value key value ++ rest)) wanted
    ≡ before_others key value wanted (last_value (map line_of rest) wanted)
unfolding last_value
last_before key None rest wanted = refl
last_before key (Some value) rest wanted = refl

last_step : (key wanted : List ℕ) (value said : Option (List ℕ)) (same among : Bool) → bytes_eq key wanted ≡ same
    → (same ≡ true → value ≡ said)
    → before_others key value wanted (if among then said else None) ≡ (if same || among then said else None)
last_step key wanted None said true true e h = refl
last_step key wanted None said true false e h = h refl
last_step key wanted None said false among e h = refl
last_step key wanted (Some value) said true true e h =
    ap (λ o. or_here o (key_line key value) wanted) (sym (h refl)) ∙ h refl
last_step key wanted (Some value) said true false e h = ap (λ b. if b then Some value else None) e ∙ h refl
last_step key wanted (Some value) said false among e h =
    or_here_other (if among then said else None) (key_line key value) wanted e

good_before : (key : List ℕ) (value : Option (List ℕ)) (rest : List (List ℕ × List ℕ))
    → ((v : List ℕ) → value ≡ Some v → IsGoodPair key v) → lines_fault (map line_of rest) ≡ None
    → lines_fault (map line_of (with_value key value ++ rest)) ≡ None
unfolding lines_fault
good_before key None rest h e = e
good_before key (Some v) rest h e =
    ap (λ o. option_or (option_map (with_key key) o) (lines_fault (map line_of rest))) (h v refl) ∙ e

short_before : (key : List ℕ) (value : Option (List ℕ)) (rest : List (List ℕ × List ℕ)) (n : ℕ) → length rest ≤ n
    → length (with_value key value ++ rest) ≤ suc n
short_before key None rest n l = omega (arith, l)
short_before key (Some v) rest n l = omega (arith, l)

module _ (said : List ℕ → Option (List ℕ)) where
  abbrev pairs : List (List ℕ) → List (List ℕ × List ℕ)
  pairs keys = flat_map (λ key. with_value key (said key)) keys

  -- the last line of a key says its value
  last_said : (keys : List (List ℕ)) (wanted : List ℕ)
      → last_value (map line_of (pairs keys)) wanted ≡ (if is_among wanted keys then said wanted else None)
  unfolding last_value
  last_said [] wanted = refl
  last_said (key ∷ keys) wanted =
      last_before key (said key) (pairs keys) wanted
      ∙ ap (before_others key (said key) wanted) (last_said keys wanted)
      ∙ last_step key wanted (said key) (said wanted) (bytes_eq key wanted) (is_among wanted keys) refl
      (λ same. ap said ((bytes_eq-Decides key wanted).0 same))

  -- they have no fault where no value has one
  said_good : (keys : List (List ℕ)) → ((key value : List ℕ) → said key ≡ Some value → IsGoodPair key value)
      → lines_fault (map line_of (pairs keys)) ≡ None
  unfolding lines_fault
  said_good [] good = refl
  said_good (key ∷ keys) good = good_before key (said key) (pairs keys) (good key) (said_good keys good)

  -- there is at most one of each key
  said_short : (keys : List (List ℕ)) → length (pairs keys) ≤ length keys
  said_short [] = omega arith
  said_short (key ∷ keys) = short_before key (said key) (pairs keys) (length keys) (said_short keys)

  module _ (P : List ℕ × List ℕ → Type 0) where
    all_before : (key : List ℕ) (value : Option (List ℕ)) (rest : List (List ℕ × List ℕ))
        → ((v : List ℕ) → value ≡ Some v → P (key, v)) → All P rest → All P (with_value key value ++ rest)
    all_before key None rest h others = others
    all_before key (Some v) rest h others = All-cons P (key, v) rest (h v refl) others

    -- what holds of each key with its value holds of each pair
    pub each_told : (keys : List (List ℕ))
        → ((key value : List ℕ) → is_among key keys ≡ true → said key ≡ Some value → P (key, value))
        → All P (pairs keys)
    each_told [] h = All-nil P
    each_told (key ∷ keys) h =
        all_before key (said key) (pairs keys)
        (λ value is. h key value (or_left _ (is_among key keys) ((bytes_eq-Decides key key).1 refl)) is)
        (each_told keys (λ other value among is. h other value (or_right (bytes_eq key other) _ among) is))

-- ---- what a section tells

pub told_short : (sections : List Section) (place : ℕ) → length (told sections place) ≤ 213
unfolding told told_of
told_short sections place = omega (arith, said_short (told_value sections place) ordered_keys, keys_long)

-- the lines that it tells
abbrev pub told_lines : List Section → ℕ → List KeyLine
told_lines sections place = map line_of (told sections place)

pub row_is_piece : (i : ℕ) → i < length pieces → is_piece (get_or pieces i (wordless [])).key ≡ true
row_is_piece i l =
    let row = get_or pieces i (wordless []) in
    let itself = (bytes_eq-Decides row.key row.key).1 refl in
    sym (list_any_found (λ piece. bytes_eq piece.key row.key) pieces)
    ∙ list_any_at (λ piece. bytes_eq piece.key row.key) pieces i (wordless []) l itself

pub found_is_piece : (test : PieceRow → Bool) (row : PieceRow) → find test pieces ≡ Some row → is_piece row.key ≡ true
found_is_piece test row e =
    sym (list_any_found (λ piece. bytes_eq piece.key row.key) pieces)
    ∙ found_in test (λ piece. bytes_eq piece.key row.key) pieces row e ((bytes_eq-Decides row.key row.key).1 refl)

pub unless_lacking : (lacks : Bool) (value : Option (List ℕ)) (v : List ℕ) → (if lacks then None else value) ≡ Some v
    → value ≡ Some v
unless_lacking true value v e = cc
unless_lacking false value v e = e

letter_unless : (letter : Option Kind) (value : Option (List ℕ))
    → ((k : Kind) → letter ≡ Some k → option_and_then letter_in value ≡ Some k)
    → option_and_then letter_in (if is_none letter then None else value) ≡ letter
letter_unless None value h = refl
letter_unless (Some k) value h = h k refl

nothing_said : (value : Option (List ℕ)) → ((v : List ℕ) → value ≡ Some v → ⊥) → None ≡ value
nothing_said None h = refl
nothing_said (Some v) h = absurd (h v refl)

unknown : (piece : Option PieceRow) (option : Option OptionRow) (mobility skipped : Bool) (value : List ℕ)
    → is_some piece ≡ false → is_some option ≡ false → mobility ≡ false → skipped ≡ false
    → fault_with piece (kind_from option mobility) skipped value ≡ None → ⊥
unknown (Some piece) option mobility skipped value p o m s none = cc
unknown None (Some option) mobility skipped value p o m s none = cc
unknown None None true skipped value p o m s none = cc
unknown None None false true value p o m s none = cc
unknown None None false false value p o m s none = cc

-- a line with a key that no table has is faulty
unsupported : (key value : List ℕ) → is_piece key ≡ false → is_option key ≡ false → is_mobility_key key ≡ false
    → is_skipped key ≡ false → IsGoodPair key value → ⊥
unfolding line_fault option_kind
unsupported key value no_piece no_option no_region unread none =
    unknown (piece_named key) (find (λ option. bytes_eq option.key key) options) (is_mobility_key key) (is_skipped key)
    value no_piece no_option no_region unread none

module _ (sections : List Section) (place : ℕ) where
  told_last : (key : List ℕ)
      → last_value (told_lines sections place) key
      ≡ (if is_among key ordered_keys then told_value sections place key else None)
  unfolding told told_of
  told_last key = last_said (told_value sections place) ordered_keys key

  lacks_is : (key : List ℕ) (named : Option PieceRow) → piece_named key ≡ named → is_some named ≡ true
      → lacks_row sections place named ≡ is_none (piece_letter sections place key)
  lacks_is key None e h = cc
  lacks_is key (Some row) e h =
      let same = found_passes (λ piece. bytes_eq piece.key key) pieces row e in
      ap (λ k. is_none (piece_letter sections place k)) ((bytes_eq-Decides row.key key).0 same)

  among_piece : (key : List ℕ) → is_piece key ≡ true → is_among key ordered_keys ≡ true
  among_piece key e =
      among_ordered key ∙ or_right (is_option key || is_mobility_key key) (is_piece key) e

  -- the value of a piece, where the section has the piece
  abbrev value_of_piece : List ℕ → Option (List ℕ)
  value_of_piece key = if is_none (piece_letter sections place key) then None else option_value sections place key

  told_piece : (key : List ℕ) → is_piece key ≡ true → last_value (told_lines sections place) key ≡ value_of_piece key
  told_piece key e =
      told_last key
      ∙ ap (λ b. if b then told_value sections place key else None) (among_piece key e)
      ∙ ap (λ b. if b then None else option_value sections place key) (lacks_is key (piece_named key) refl e)

  -- the letter that is told of a piece
  pub told_letter : (key : List ℕ) → is_piece key ≡ true
      → own_letter (told_lines sections place) key ≡ piece_letter sections place key
  told_letter key e =
      ap (option_and_then letter_in) (told_piece key e)
      ∙ letter_unless (piece_letter sections place key) (option_value sections place key)
      (λ k is. letter_of_value sections key k place is)

  -- the value of a piece that the section has
  pub told_word : (key : List ℕ) (k : Kind) → is_piece key ≡ true → piece_letter sections place key ≡ Some k
      → last_value (told_lines sections place) key ≡ option_value sections place key
  told_word key k e is = told_piece key e ∙ ap (λ o. if is_none o then None else option_value sections place key) is

  module _ (accepts : is_refused sections place ≡ false) where
    -- no line that is told has a fault
    pub told_good : lines_fault (told_lines sections place) ≡ None
    unfolding told told_of
    told_good =
        said_good (told_value sections place) ordered_keys
        (λ key value e.
        value_good sections key value place (faultless sections place accepts)
        (unless_lacking (lacks_piece sections place key) (option_value sections place key) value e))

    option_step : (key : List ℕ) (among : Bool) → is_among key ordered_keys ≡ among → is_piece key ≡ false
        → is_skipped key ≡ false
        → (if among then told_value sections place key else None) ≡ option_value sections place key
    option_step key true is no_piece unread =
        ap (λ named. if lacks_row sections place named then None else option_value sections place key)
        (not_some (piece_named key) no_piece)
    option_step key false is no_piece unread =
        let none = sym (among_ordered key) ∙ is in
        let parts = or_parts (is_option key) (is_mobility_key key) (or_parts _ (is_piece key) none).0 in
        nothing_said (option_value sections place key)
        (λ value e.
        unsupported key value no_piece parts.0 parts.1 unread
        (value_good sections key value place (faultless sections place accepts) e))

    -- the value of a key that is not a piece's is told, where it is not read over
    pub told_option : (key : List ℕ) → is_piece key ≡ false → is_skipped key ≡ false
        → last_value (told_lines sections place) key ≡ option_value sections place key
    told_option key no_piece unread = told_last key ∙ option_step key (is_among key ordered_keys) refl no_piece unread
