-- The lines that a file gives to its sections.
use Rattle.std.proofs.Common.{◌≡◌, ℕ, zero, suc, ◌+◌, ◌-◌, ◌<◌, ◌≤◌, ◌==◌, nat_lt, nat_le, Bool, true, false, List, [], ◌∷◌, ◌++◌, Option, None, Some, length, map, take, drop, reverse, slice_index, refl, sym, ap, ◌∙◌, subst, arith, if◌then◌else◌, position, Result, Ok, Err, OnOk}
use Rattle.std.specs.List.{All, list_any, onto_first}
use Rattle.std.specs.Str.Lines.{strip_carriage_return}
use Rattle.std.proofs.lemmas.Bool.{ltb-false, or_from, or_parts}
use Rattle.std.proofs.lemmas.Grind.{reverse_onto}
use Rattle.std.proofs.lemmas.List.{length-drop, length-take}
use Rattle.std.proofs.lemmas.List.Elements.{All-append, All-cons, All-head, All-tail}
use Rattle.std.proofs.lemmas.List.Folds.{list_any-append}
use Rattle.std.proofs.lemmas.List.Quantifiers.{position-Some}
use Rattle.foundation.specs.Cuts.{cut, cut_where, is_blank}
use Rattle.variant_ini.specs.declared.fault.IniFault.{IniFault}
use Rattle.variant_ini.specs.Cuts.{is_feed, cut_lines, trimmed, without_blanks}
use Rattle.variant_ini.specs.FileLines.{AreFileLines, IsFileLine}
use Rattle.variant_ini.specs.LineKind.{LineKind, bad, comment, foreign, header, is_comment, kind_from, line_kind, pair, pair_from, pair_of, header_of, text_kind}
use Rattle.variant_ini.specs.Reading.{fault_of, first_fault, first_of, line_fault, pairs_of, sections_in, sections_in_lines, sections_of}
use Rattle.variant_ini.specs.Section.{Section, key_line}
use Rattle.variant_ini.proofs.TrimLemmas.{bare-trimmed, trimmed-bare, trimmed-short}

-- ---- what no byte of a text is, no byte of a part of it is

module _ (test : ℕ → Bool) where
  none-without_blanks : (text : List ℕ) → list_any test text ≡ false → list_any test (without_blanks text) ≡ false
  none-without_blanks [] none = none
  none-without_blanks (b ∷ bs) none =
      none_where (is_blank b) (none-without_blanks bs (or_parts (test b) (list_any test bs) none).1)
    where
      none_where : (blank : Bool) → list_any test (without_blanks bs) ≡ false
          → list_any test (if blank then without_blanks bs else b ∷ bs) ≡ false
      none_where true others = others
      none_where false others = none

  none-reverse : (text : List ℕ) → list_any test text ≡ false → list_any test (reverse text) ≡ false
  none-reverse [] none = none
  none-reverse (b ∷ bs) none =
      ap (list_any test) (reverse_onto bs b [])
      ∙ list_any-append test (reverse bs) (b ∷ [])
      ∙ or_from _ _ (none-reverse bs (or_parts (test b) (list_any test bs) none).1)
      (or_from (test b) false (or_parts (test b) (list_any test bs) none).0 refl)

  none-trimmed : (text : List ℕ) → list_any test text ≡ false → list_any test (trimmed text) ≡ false
  unfolding trimmed
  none-trimmed text none =
      none-reverse _ (none-without_blanks _ (none-reverse _ (none-without_blanks text none)))

  none-take : (n : ℕ) (text : List ℕ) → list_any test text ≡ false → list_any test (take n text) ≡ false
  none-take zero text none = refl
  none-take (suc n) [] none = none
  none-take (suc n) (b ∷ bs) none =
      or_from (test b) _ (or_parts (test b) (list_any test bs) none).0
      (none-take n bs (or_parts (test b) (list_any test bs) none).1)

  none-drop : (n : ℕ) (text : List ℕ) → list_any test text ≡ false → list_any test (drop n text) ≡ false
  none-drop zero text none = none
  none-drop (suc n) [] none = none
  none-drop (suc n) (b ∷ bs) none = none-drop n bs (or_parts (test b) (list_any test bs) none).1

  none-strip : (text : List ℕ) → list_any test text ≡ false → list_any test (strip_carriage_return text) ≡ false
  none-strip text none = none_where (slice_index text (length text - 1) == 13)
    where
      none_where : (ends : Bool) → list_any test (if ends then take (length text - 1) text else text) ≡ false
      none_where true = none-take (length text - 1) text none
      none_where false = none

-- ---- lengths

shorter-strip : (text : List ℕ) → length (strip_carriage_return text) ≤ length text
shorter-strip text = shorter_where (slice_index text (length text - 1) == 13)
  where
    shorter_where : (ends : Bool) → length (if ends then take (length text - 1) text else text) ≤ length text
    shorter_where true = omega (arith, length-take (length text - 1) text)
    shorter_where false = omega arith

-- ---- a pair that a line says

kind_pair : (is_comment is_foreign : Bool) (names : Option (List ℕ × Option (List ℕ)))
    (words : Option (List ℕ × List ℕ)) (key value : List ℕ)
    → (if is_comment then comment else if is_foreign then foreign else kind_from names words) ≡ pair key value
    → (is_foreign ≡ false) × (words ≡ Some (key, value))
kind_pair true is_foreign names words key value is = absurd (cc)
kind_pair false true names words key value is = absurd (cc)
kind_pair false false (Some names) words key value is = absurd (cc)
kind_pair false false None None key value is = absurd (cc)
kind_pair false false None (Some (k, v)) key value is = (refl, cc)

-- the line has at most 1,024 bytes and no line feed
record IsLine (line : List ℕ) : Type 0 where
  short : length line ≤ 1024
  one_line : list_any is_feed line ≡ false

module _ (text : List ℕ) (short : length text ≤ 1024) (one_line : list_any is_feed text ≡ false)
    (ascii : list_any (nat_le 128) text ≡ false) where
  from_words : (before behind key value : List ℕ) → length before + length behind < length text
      → list_any is_feed behind ≡ false → list_any (nat_le 128) behind ≡ false
      → pair_from before (Some behind) ≡ Some (key, value) → IsFileLine (key_line key value)
  from_words before behind key value less feeds high is = from_where (length (trimmed before) == 0) is
    where
      from_where : (empty : Bool)
          → (if◌then◌else◌ {A = Option (List ℕ × List ℕ)} empty None (Some (trimmed before, trimmed behind))) ≡ Some (key, value)
          → IsFileLine (key_line key value)
      from_where true is = absurd (cc)
      from_where false is =
          let read : List ℕ × List ℕ = (trimmed before, trimmed behind) in
          let wanted : List ℕ × List ℕ = (key, value) in
          let words : read ≡ wanted = cc in
          let is_key : trimmed before ≡ key = ap (λ (w : List ℕ × List ℕ). w.0) words in
          let is_value : trimmed behind ≡ value = ap (λ (w : List ℕ × List ℕ). w.1) words in
          let key_shorter = trimmed-short before in
          let value_shorter = trimmed-short behind in
          let room : length (trimmed before) + length (trimmed behind) < 1024 =
          omega (arith, less, short, key_shorter, value_shorter) in
          record {
            trim = subst (λ v. trimmed v ≡ v) is_value (bare-trimmed (trimmed behind) (trimmed-bare behind));
            one_line = subst (λ v. list_any is_feed v ≡ false) is_value (none-trimmed is_feed behind feeds);
            ascii = subst (λ v. list_any (nat_le 128) v ≡ false) is_value (none-trimmed (nat_le 128) behind high);
            short = subst (λ k. length k + length value < 1024) is_key
                (subst (λ v. length (trimmed before) + length v < 1024) is_value room);
          }

  from_cut : (place : Option ℕ) (key value : List ℕ) → position (λ b. b == 61) text ≡ place
      → pair_from (cut_where text place).0 (cut_where text place).1 ≡ Some (key, value) → IsFileLine (key_line key value)
  from_cut None key value found is = absurd (cc)
  from_cut (Some place) key value found is =
      let within = (position-Some (λ b. b == 61) text place 0 found).0 in
      from_words (take place text) (drop (place + 1) text) key value
      (omega (arith, within, length-take place text, length-drop (place + 1) text))
      (none-drop is_feed (place + 1) text one_line) (none-drop (nat_le 128) (place + 1) text ascii) is

  from_text : (key value : List ℕ) → pair_of text ≡ Some (key, value) → IsFileLine (key_line key value)
  unfolding pair_of cut
  from_text key value is = from_cut (position (λ b. b == 61) text) key value refl is

line_pair : (line key value : List ℕ) → IsLine line → line_kind line ≡ pair key value → IsFileLine (key_line key value)
unfolding line_kind text_kind
line_pair line key value good is =
    let text = trimmed (strip_carriage_return line) in
    let said = kind_pair (is_comment text) (list_any (nat_le 128) text) (header_of text) (pair_of text) key value is in
    let shorter = trimmed-short (strip_carriage_return line) in
    let stripped = shorter-strip line in
    from_text text (let short = good.short in omega (arith, shorter, stripped, short))
    (none-trimmed is_feed _ (none-strip is_feed line good.one_line)) said.0 key value said.1

-- ---- the sections of lines

pairs_are : (lines : List (List ℕ)) → All IsLine lines → All IsFileLine (pairs_of (map line_kind lines))
pairs_are [] good = λ k d below. absurd (omega (arith, below))
pairs_are (line ∷ lines) good = pairs_where (line_kind line) refl (pairs_are lines (All-tail IsLine line lines good))
  where
    pairs_where : (kind : LineKind) → line_kind line ≡ kind → All IsFileLine (pairs_of (map line_kind lines))
        → All IsFileLine (pairs_of (kind ∷ map line_kind lines))
    pairs_where comment is rest = rest
    pairs_where foreign is rest = rest
    pairs_where bad is rest = rest
    pairs_where (header name parent) is rest = λ k d below. absurd (omega (arith, below))
    pairs_where (pair key value) is rest =
        All-cons IsFileLine (key_line key value) (pairs_of (map line_kind lines))
        (line_pair line key value (All-head IsLine line lines good) is) rest

sections_are : (lines : List (List ℕ)) → All IsLine lines → AreFileLines (sections_of (map line_kind lines))
unfolding sections_of
sections_are [] good = λ k d below. absurd (omega (arith, below))
sections_are (line ∷ lines) good =
    sections_where (line_kind line) (sections_are lines (All-tail IsLine line lines good))
  where
    sections_where : (kind : LineKind) → AreFileLines (sections_of (map line_kind lines))
        → AreFileLines (sections_of (kind ∷ map line_kind lines))
    sections_where comment rest = rest
    sections_where foreign rest = rest
    sections_where bad rest = rest
    sections_where (pair key value) rest = rest
    sections_where (header name parent) rest =
        All-cons (λ (section : Section). All IsFileLine section.lines)
        (record { name = name; parent = parent; lines = pairs_of (map line_kind lines) })
        (sections_of (map line_kind lines)) (pairs_are lines (All-tail IsLine line lines good)) rest

-- ---- the lines of a file

no_feed : (text : List ℕ) → All (λ line. list_any is_feed line ≡ false) (cut_lines text)
unfolding cut_lines
no_feed [] = All-cons (λ line. list_any is_feed line ≡ false) [] [] refl (λ k d below. absurd (omega (arith, below)))
no_feed (b ∷ bs) = feed_where (b == 10) refl (cut_lines bs) (no_feed bs)
  where
    onto : (lines : List (List ℕ)) → is_feed b ≡ false → All (λ line. list_any is_feed line ≡ false) lines
        → All (λ line. list_any is_feed line ≡ false) (onto_first b lines)
    onto [] is none =
        All-cons (λ line. list_any is_feed line ≡ false) (b ∷ []) [] (or_from (is_feed b) false is refl) none
    onto (line ∷ lines) is none =
        All-cons (λ line. list_any is_feed line ≡ false) (b ∷ line) lines
        (or_from (is_feed b) (list_any is_feed line) is
        (All-head (λ line. list_any is_feed line ≡ false) line lines none))
        (All-tail (λ line. list_any is_feed line ≡ false) line lines none)

    feed_where : (feeds : Bool) → is_feed b ≡ feeds → (lines : List (List ℕ))
        → All (λ line. list_any is_feed line ≡ false) lines
        → All (λ line. list_any is_feed line ≡ false) (if feeds then [] ∷ lines else onto_first b lines)
    feed_where true is lines none = All-cons (λ line. list_any is_feed line ≡ false) [] lines refl none
    feed_where false is lines none = onto lines is none

none_first : (fault later : Option IniFault) → first_of fault later ≡ None → (fault ≡ None) × (later ≡ None)
none_first None later is = (refl, is)
none_first (Some fault) later is = absurd (cc)

not_above : (is_long : Bool) (fault : IniFault) (other : Option IniFault)
    → (if is_long then Some fault else other) ≡ None → (is_long ≡ false) × (other ≡ None)
not_above true fault other is = absurd (cc)
not_above false fault other is = (refl, is)

short_lines : (above lines : List (List ℕ)) → first_fault above lines ≡ None → All (λ (line : List ℕ). length line ≤ 1024) lines
unfolding first_fault
short_lines above [] is = λ k d below. absurd (omega (arith, below))
short_lines above (line ∷ lines) is =
    let both = none_first (line_fault above line) (first_fault (above ++ line ∷ []) lines) is in
    let fits = ltb-false 1024 (length line) (not_above (nat_lt 1024 (length line)) _ _ both.0).0 in
    All-cons (λ (line : List ℕ). length line ≤ 1024) line lines fits
    (short_lines (above ++ line ∷ []) lines both.1)

pub file_lines : (bytes : List ℕ) → fault_of bytes ≡ None → AreFileLines (sections_in bytes)
unfolding fault_of sections_in sections_in_lines
file_lines bytes is =
    let short = short_lines [] (cut_lines bytes) (not_above (nat_lt 1048576 (length bytes)) _ _ is).1 in
    sections_are (cut_lines bytes) (λ k d below. record { short = short k d below; one_line = no_feed bytes k d below })

-- sections stay such where a file's are added
pub lines_added : (answer : Result (Unit {0}) IniFault) (old new : List Section) (bytes : List ℕ)
    → OnOk answer (new ≡ old ++ sections_in bytes) → OnOk answer (fault_of bytes ≡ None)
    → AreFileLines old → OnOk answer (AreFileLines new)
lines_added (Ok x) old new bytes added none are =
    subst AreFileLines (sym added)
    (All-append (λ (section : Section). All IsFileLine section.lines) old (sections_in bytes) are (file_lines bytes none))
lines_added (Err fault) old new bytes added none are = tt
