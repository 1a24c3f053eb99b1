-- The lines of the rules of a section, below a header, are a variants file of the same rules.
use Rattle.std.proofs.Common.{◌≡◌, ℕ, ◌+◌, ◌*◌, ◌-◌, ◌≤◌, ◌==◌, nat_lt, nat_le, ◌&&◌, ◌||◌, Bool, true, false, not, List, [], ◌∷◌, ◌++◌, Option, Some, None, length, map, reverse, take, slice_index, if◌then◌else◌, refl, sym, ap, subst, ◌∙◌, arith, length-append, append_assoc, append-nil, true≢false}
use Rattle.std.specs.Prelude.{All, codes}
use Rattle.std.specs.Io.BufRead.{ends_with_byte}
use Rattle.std.specs.List.{list_all, list_any, onto_first, position_or_len}
use Rattle.std.specs.Str.Lines.{strip_carriage_return}
use Rattle.std.proofs.Math.Seq.{take-append_seam}
use Rattle.std.proofs.lemmas.Bool.{and_from, and_parts, le-ltb, leb-true, lt-leb, lt-ltb, ltb-true, ne_eqb, or_from}
use Rattle.std.proofs.lemmas.List.{length-map, length-reverse, map-append, reverse-append}
use Rattle.std.proofs.lemmas.List.Folds.{list_all-append, list_any-append}
use Rattle.foundation.specs.Cuts.{cut, cut_where}
use Rattle.fen_model.proofs.JoinLaws.{Each, Lacks, lacks-from}
use Rattle.strategy.proofs.BackLaws.{all_first, all_others}
use Rattle.strategy.proofs.BackLemmas.{cut-word}
use Rattle.strategy.proofs.LineLaws.{IsLine}
use Rattle.strategy.specs.Writing.{ended_line, ended_lines}
use Rattle.variant_ini.specs.declared.fault.IniFault.{IniFault}
use Rattle.variant_ini.specs.declared.fault.IniFault.TheVariants.{LineTooLong}
use Rattle.variant_ini.specs.Cuts.{cut_lines, is_feed, trimmed}
use Rattle.variant_ini.specs.FileLines.{IsFileLine}
use Rattle.variant_ini.specs.LineKind.{LineKind, comment, foreign, header, header_of, inside_header, is_comment, is_name, is_name_byte, kind_from, line_kind, names_of, pair, pair_from, pair_of, text_kind}
use Rattle.variant_ini.specs.Lone.{lone_section}
use Rattle.variant_ini.specs.Reading.{fault_of, first_fault, first_of, kind_fault, line_fault, numbered_fault, pairs_of, sections_in, sections_in_lines, sections_of}
use Rattle.variant_ini.specs.Section.{Section, key_line}
use Rattle.variant_ini.specs.Steps.{with_line}
use Rattle.variant_ini.proofs.ReadingLaws.{fault_of-fits, sections_of-push}
use Rattle.variant_ini.proofs.TrimLemmas.{BeginsBare, IsBare, bare-first, bare-trimmed, blank-after, trimmed-bare}
use Rattle.variant_model.specs.Told.{line_of, told}
use Rattle.proof_text.specs.Writing.{header_text, pair_text, pair_texts}
use Rattle.proof_text.proofs.FileBackLemmas.{is_firm, keys-firm, told-back}
use Rattle.proof_text.proofs.PairBackLemmas.{IsPlain, is_plain, last-append, last_of, line-pair, plain-parts}
use Rattle.proof_text.proofs.ToldBackLemmas.{KeyPasses, keys-plain, pairs-lines, told-each, told-passes}

-- ---- what a text says that a line has

not_true : (t : Bool) → not t ≡ true → t ≡ false
not_true true is = sym is
not_true false is = refl

module _ (b : ℕ) (inside : List ℕ) where
  abbrev whole : List ℕ
  whole = b ∷ inside

  no_header : (b == 91) ≡ false → header_of whole ≡ None
  unfolding header_of
  no_header is =
      ap (λ (t : Bool). inside_header (if◌then◌else◌ {A = Option (List ℕ)} (t && (slice_index inside (length inside - 1) == 93)) (Some (take (length inside - 1) inside)) None)) is

  -- a text that begins no comment and no header, has no byte above 127 and says a pair
  says-pair : (key value : List ℕ) → is_comment whole ≡ false → (b == 91) ≡ false → list_any (nat_le 128) whole ≡ false
      → pair_of whole ≡ Some (key, value) → text_kind whole ≡ pair key value
  unfolding text_kind
  says-pair key value no_comment no_sign ascii says =
      ap (λ t. if t then comment else if list_any (nat_le 128) whole then foreign else kind_from (header_of whole) (pair_of whole)) no_comment
      ∙ ap (λ t. if t then foreign else kind_from (header_of whole) (pair_of whole)) ascii
      ∙ ap (λ h. kind_from h (pair_of whole)) (no_header no_sign)
      ∙ ap (λ p. kind_from None p) says

-- a line that does not end in a carriage return is as it stands
stripped : (line : List ℕ) → (last_of line == 13) ≡ false → strip_carriage_return line ≡ line
stripped line no_return = ap (λ t. if t then take (length line - 1) line else line) no_return

-- ---- the line of a pair

module _ (b : ℕ) (text value : List ℕ) (plain : IsPlain (b ∷ text)) (firm : is_firm (b ∷ text) ≡ true)
    (is_file : IsFileLine (line_of (b ∷ text, value))) where
  abbrev key : List ℕ
  key = b ∷ text

  abbrev line : List ℕ
  line = pair_text (key, value)

  firm_parts : ((b == 35 || b == 59) ≡ false) × ((b == 91) ≡ false) × (list_any (nat_le 128) key ≡ false)
  firm_parts =
      let high = list_any (nat_le 128) key in
      let one = and_parts (not (b == 35 || b == 59)) (not (b == 91) && not high) firm in
      let two = and_parts (not (b == 91)) (not high) one.1 in
      (not_true _ one.0, not_true _ two.0, not_true _ two.1)

  value_bare : IsBare value
  value_bare = subst IsBare is_file.trim (trimmed-bare value)

  ascii : (rest : List ℕ) → list_any (nat_le 128) rest ≡ false → list_any (nat_le 128) (key ++ rest) ≡ false
  ascii rest none = list_any-append (nat_le 128) key rest ∙ or_from _ _ firm_parts.2 none

  -- with a value

  more_bare : (front back : List ℕ) → nat_lt 0 (length front) ≡ true → BeginsBare front → BeginsBare (front ++ back)
  more_bare [] back some bare = absurd (true≢false (sym some))
  more_bare (a ∷ front) back some bare = bare-first a front (front ++ back) bare

  back_bare : (v : List ℕ) → nat_lt 0 (length v) ≡ true → IsBare v → BeginsBare (reverse (key ++ codes " = " ++ v))
  back_bare v some bare =
      let longer : nat_lt 0 (length (reverse v)) ≡ true = lt-ltb 0 _ (omega (arith, length-reverse v, ltb-true 0 (length v) some)) in
      subst BeginsBare (sym (reverse-append (key ++ codes " = ") v))
      (more_bare (reverse v) (reverse (key ++ codes " = ")) longer bare.back)

  kind-some : nat_lt 0 (length value) ≡ true → (last_of line == 13) ≡ false → line_kind line ≡ pair key value
  unfolding line_kind
  kind-some some no_return =
      let bare : IsBare line = record {
        front = bare-first b text (text ++ codes " = " ++ value) plain.bare.front;
        back = back_bare value some value_bare;
      } in
      ap text_kind (ap trimmed (stripped line no_return) ∙ bare-trimmed line bare)
      ∙ says-pair b (text ++ codes " = " ++ value) key value firm_parts.0 firm_parts.1
      (ap (list_any (nat_le 128)) (append_assoc key (codes " = ") value) ∙ ascii (codes " = " ++ value) is_file.ascii)
      (line-pair key value plain value_bare)

  -- without one the blank at the end is left out

  abbrev bare_line : List ℕ
  bare_line = key ++ codes " ="

  cut_bare : cut 61 bare_line ≡ (key ++ 32 ∷ [], Some [])
  cut_bare =
      ap (cut 61) (sym (append_assoc key (32 ∷ []) (61 ∷ [])))
      ∙ cut-word 61 (key ++ 32 ∷ []) []
      (list_all-append (λ c. not (c == 61)) key (32 ∷ []) ∙ and_from _ _ plain.no_sign refl)

  abbrev unless_empty : Bool → List ℕ × List ℕ → Option (List ℕ × List ℕ)
  unless_empty is_empty words = if is_empty then None else Some words

  bare_says : pair_of bare_line ≡ Some (key, [])
  unfolding pair_of trimmed
  bare_says =
      let some : (length key == 0) ≡ false = ne_eqb (length key) 0 (λ e. absurd (omega (arith, e))) in
      ap (λ c. pair_from c.0 c.1) cut_bare
      ∙ ap (λ k. unless_empty (length k == 0) (k, [])) (blank-after b text plain.bare)
      ∙ ap (λ t. unless_empty t (key, [])) some

  bare_bare : IsBare bare_line
  bare_bare = record {
    front = bare-first b text (text ++ codes " =") plain.bare.front;
    back = subst BeginsBare (sym (reverse-append key (codes " ="))) refl;
  }

  kind-none : value ≡ [] → (last_of line == 13) ≡ false → line_kind line ≡ pair key value
  unfolding line_kind
  kind-none none no_return =
      let is_line : line ≡ bare_line ++ 32 ∷ [] =
      ap (λ v. key ++ codes " = " ++ v) none
      ∙ append-nil (key ++ codes " = ")
      ∙ sym (append_assoc key (codes " =") (32 ∷ [])) in
      ap text_kind (ap trimmed (stripped line no_return ∙ is_line) ∙ blank-after b (text ++ codes " =") bare_bare)
      ∙ says-pair b (text ++ codes " =") key [] firm_parts.0 firm_parts.1 (ascii (codes " =") refl) bare_says
      ∙ ap (pair key) (sym none)

  pub kind-told : (last_of line == 13) ≡ false → line_kind line ≡ pair key value
  kind-told no_return = go value refl
    where
      go : (v : List ℕ) → value ≡ v → line_kind line ≡ pair key value
      go [] is = kind-none is no_return
      go (c ∷ v) is = kind-some (ap (λ w. nat_lt 0 (length w)) is ∙ lt-ltb 0 (length (c ∷ v)) (omega arith)) no_return

-- ---- what is known of each pair

-- the line of the pair says it, in a file too, and is one line
pub record IsSaid (one : List ℕ × List ℕ) : Type 0 where
  pub kind : line_kind (pair_text one) ≡ pair one.0 one.1
  pub no_feed : Lacks 10 (pair_text one)

second_false : (s t : Bool) → s ≡ true → (s && t) ≡ false → t ≡ false
second_false true t is none = none
second_false false t is none = cc

pub is-said : (one : List ℕ × List ℕ) → is_plain one.0 ≡ true → is_firm one.0 ≡ true → IsFileLine (line_of one)
    → IsLine (pair_text one) → IsSaid one
is-said ([], value) plain firm is_file is_line = absurd (true≢false (sym firm))
is-said (b ∷ text, value) plain firm is_file is_line = record {
  kind = kind-told b text value (plain-parts (b ∷ text) plain) firm is_file
      (second_false _ _ (lt-ltb 0 (length (pair_text (b ∷ text, value))) (omega arith)) is_line.no_return);
  no_feed = is_line.no_feed;
}

pub each-said : (pairs : List (List ℕ × List ℕ)) → Each (KeyPasses is_plain) pairs → Each (KeyPasses is_firm) pairs
    → All (λ one. IsFileLine (line_of one)) pairs → Each IsLine (pair_texts pairs) → Each IsSaid pairs
each-said [] plain firm files lines = tt
each-said (one ∷ pairs) plain firm files lines = (
  is-said one plain.0 firm.0 (all_first (λ p. IsFileLine (line_of p)) one pairs files) lines.0,
  each-said pairs plain.1 firm.1 (all_others (λ p. IsFileLine (line_of p)) one pairs files) lines.1,
)

pub told-said : (sections : List Section) (place : ℕ) → All (λ one. IsFileLine (line_of one)) (told sections place)
    → All (λ one. ends_with_byte 13 one.1 ≡ false) (told sections place) → Each IsSaid (told sections place)
told-said sections place files no_return =
    each-said (told sections place) (told-passes is_plain sections place keys-plain)
    (told-passes is_firm sections place keys-firm) files
    (pairs-lines (told sections place) (told-each sections place (told-back sections place files no_return)))

-- ---- the lines of a file

onto_feed : (b : ℕ) (text : List ℕ) (rest : List (List ℕ)) (t : Bool) → is_feed b ≡ t → t ≡ false
    → (if t then [] ∷ (text ∷ rest) else onto_first b (text ∷ rest)) ≡ (b ∷ text) ∷ rest
onto_feed b text rest false is other = refl
onto_feed b text rest true is other = absurd (true≢false other)

cut_first : (text rest : List ℕ) → Lacks 10 text → cut_lines (text ++ 10 ∷ rest) ≡ text ∷ cut_lines rest
unfolding cut_lines
cut_first [] rest lacks = refl
cut_first (b ∷ text) rest lacks =
    let both = and_parts (not (b == 10)) (list_all (λ c. not (c == 10)) text) lacks in
    ap (λ lines. if is_feed b then [] ∷ lines else onto_first b lines) (cut_first text rest both.1)
    ∙ onto_feed b text (cut_lines rest) (is_feed b) refl (not_true (b == 10) both.0)

cut_line : (text rest : List ℕ) → Lacks 10 text → cut_lines (ended_line text ++ rest) ≡ text ∷ cut_lines rest
cut_line text rest lacks = ap cut_lines (append_assoc text (10 ∷ []) rest) ∙ cut_first text rest lacks

-- the lines of pairs, and the empty text after the last of them
abbrev pub file_texts : List (List ℕ × List ℕ) → List (List ℕ)
file_texts pairs = pair_texts pairs ++ [] ∷ []

pub pairs-cut : (pairs : List (List ℕ × List ℕ)) → Each IsSaid pairs → cut_lines (ended_lines (pair_texts pairs)) ≡ file_texts pairs
unfolding ended_lines cut_lines
pairs-cut [] each = refl
pairs-cut (one ∷ pairs) each =
    cut_line (pair_text one) (ended_lines (pair_texts pairs)) each.0.no_feed
    ∙ ap (λ lines. pair_text one ∷ lines) (pairs-cut pairs each.1)

-- ---- what they say

pub pairs-are : (pairs : List (List ℕ × List ℕ)) → Each IsSaid pairs → pairs_of (map line_kind (file_texts pairs)) ≡ map line_of pairs
unfolding line_kind text_kind trimmed
pairs-are [] each = refl
pairs-are (one ∷ pairs) each =
    ap (λ kind. pairs_of (kind ∷ map line_kind (file_texts pairs))) each.0.kind
    ∙ ap (λ lines. line_of one ∷ lines) (pairs-are pairs each.1)

pub no-sections : (pairs : List (List ℕ × List ℕ)) → Each IsSaid pairs → sections_of (map line_kind (file_texts pairs)) ≡ []
unfolding sections_of line_kind text_kind trimmed
no-sections [] each = refl
no-sections (one ∷ pairs) each =
    ap (λ kind. sections_of (kind ∷ map line_kind (file_texts pairs))) each.0.kind ∙ no-sections pairs each.1

-- ---- the header

lacks-place : (byte : ℕ) (text : List ℕ) → Lacks byte text → position_or_len (λ b. b == byte) text ≡ length text
lacks-place byte [] lacks = refl
lacks-place byte (b ∷ text) lacks =
    let both = and_parts (not (b == byte)) (list_all (λ c. not (c == byte)) text) lacks in
    let more : position_or_len (λ c. c == byte) text ≡ length text = lacks-place byte text both.1 in
    ap (λ t. if t then 1 + position_or_len (λ c. c == byte) text else 0) both.0 ∙ omega (arith, more)

module _ (name : List ℕ) (is : is_name name ≡ true) where
  abbrev top : List ℕ
  top = header_text name

  bytes_named : list_all is_name_byte name ≡ true
  bytes_named = (and_parts (nat_lt 0 (length name) && nat_le (length name) 64) (list_all is_name_byte name) is).1

  name_short : length name ≤ 64
  name_short =
      let both = and_parts (nat_lt 0 (length name) && nat_le (length name) 64) (list_all is_name_byte name) is in
      leb-true (length name) 64 (and_parts (nat_lt 0 (length name)) (nat_le (length name) 64) both.0).1

  no_high : (bytes : List ℕ) → list_all is_name_byte bytes ≡ true → list_any (nat_le 128) bytes ≡ false
  no_high [] all = refl
  no_high (c ∷ bytes) all =
      let both = and_parts (is_name_byte c) (list_all is_name_byte bytes) all in
      let range = nat_lt 32 c && nat_lt c 127 in
      let low = and_parts (nat_lt 32 c) (nat_lt c 127) (and_parts range _ both.0).0 in
      or_from (nat_le 128 c) _ (lt-leb 128 c (omega (arith, ltb-true c 127 low.1))) (no_high bytes both.1)

  top_stripped : strip_carriage_return top ≡ top
  top_stripped = stripped top (ap (λ c. c == 13) (last-append (91 ∷ name) 93 []))

  top_bare : IsBare top
  top_bare = record { front = refl; back = subst BeginsBare (sym (reverse-append (91 ∷ name) (93 ∷ []))) refl }

  inside_last : (slice_index (name ++ 93 ∷ []) (length (name ++ 93 ∷ []) - 1) == 93) ≡ true
  inside_last = ap (λ c. c == 93) (last-append name 93 [])

  inside_name : take (length (name ++ 93 ∷ []) - 1) (name ++ 93 ∷ []) ≡ name
  inside_name =
      let longer : length (name ++ 93 ∷ []) - 1 ≡ length name = omega (arith, length-append name (93 ∷ [])) in
      ap (λ n. take n (name ++ 93 ∷ [])) longer ∙ take-append_seam name (93 ∷ [])

  uncut : cut 58 name ≡ (name, None)
  unfolding cut
  uncut =
      let place = position_or_len (λ b. b == 58) name in
      let end = lacks-place 58 name (lacks-from is_name_byte 58 name refl bytes_named) in
      ap (λ t. cut_where name (if t then Some place else None)) (le-ltb place (length name) (omega (arith, end)))

  header_is : header_of top ≡ Some (name, None)
  unfolding header_of
  header_is =
      ap (λ (t : Bool). inside_header (if◌then◌else◌ {A = Option (List ℕ)} t (Some (take (length (name ++ 93 ∷ []) - 1) (name ++ 93 ∷ []))) None)) inside_last
      ∙ ap (λ n. inside_header (Some n)) inside_name
      ∙ ap names_of uncut
      ∙ ap (λ (t : Bool). if◌then◌else◌ {A = Option (List ℕ × Option (List ℕ))} t (Some (name, None)) None) is

  pub header-kind : line_kind top ≡ header name None
  unfolding line_kind text_kind
  header-kind =
      ap text_kind (ap trimmed top_stripped ∙ bare-trimmed top top_bare)
      ∙ ap (λ t. if t then foreign else kind_from (header_of top) (pair_of top))
      (list_any-append (nat_le 128) name (93 ∷ []) ∙ or_from _ _ (no_high name bytes_named) refl)
      ∙ ap (λ h. kind_from h (pair_of top)) header_is

  pub header-short : length top ≤ 1024
  header-short = omega (arith, name_short, length-append name (93 ∷ []))

  pub header-no_feed : Lacks 10 top
  header-no_feed =
      list_all-append (λ c. not (c == 10)) name (93 ∷ [])
      ∙ and_from _ _ (lacks-from is_name_byte 10 name refl bytes_named) refl

-- ---- no fault

abbrev or_more : ℕ → Bool → Option IniFault → Option IniFault
or_more number long fault = if long then Some (LineTooLong number) else fault

-- a line that is not too long and says something else than a fault
no_line_fault : (number above : ℕ) (line : List ℕ) (kind : LineKind) → length line ≤ 1024 → line_kind line ≡ kind
    → kind_fault number above kind ≡ None → numbered_fault number above line ≡ None
no_line_fault number above line kind short is none =
    ap (λ t. or_more number t (kind_fault number above (line_kind line))) (le-ltb 1024 (length line) short)
    ∙ ap (kind_fault number above) is
    ∙ none

-- lines after those of one section
module _ (above : List (List ℕ)) (here : Section) where
  -- a pair more
  more_pairs : (line key value : List ℕ) → sections_in_lines above ≡ here ∷ [] → line_kind line ≡ pair key value
      → sections_in_lines (above ++ line ∷ []) ≡ record here { lines = here.lines ++ key_line key value ∷ [] } ∷ []
  unfolding sections_in_lines
  more_pairs line key value one is =
      ap sections_of (map-append line_kind above (line ∷ []))
      ∙ ap (λ kind. sections_of (map line_kind above ++ kind ∷ [])) is
      ∙ sections_of-push (map line_kind above) (pair key value)
      ∙ ap (λ (ss : List Section). with_line (pair key value) ss) one

pub pairs-faultless : (above : List (List ℕ)) (here : Section) (pairs : List (List ℕ × List ℕ)) → sections_in_lines above ≡ here ∷ []
    → Each IsSaid pairs → All (λ text. length text ≤ 1024) (pair_texts pairs) → first_fault above (file_texts pairs) ≡ None
unfolding first_fault line_kind text_kind trimmed
pairs-faultless above here [] one each short =
    ap (λ f. first_of f None) (no_line_fault (length above + 1) (length (sections_in_lines above)) [] comment (omega arith) refl refl)
pairs-faultless above here (p ∷ pairs) one each short =
    let line = pair_text p in
    let first : line_fault above line ≡ None =
    ap (λ (ss : List Section). numbered_fault (length above + 1) (length ss) line) one
    ∙ no_line_fault (length above + 1) 1 line (pair p.0 p.1)
    (all_first (λ text. length text ≤ 1024) line (pair_texts pairs) short) each.0.kind refl in
    ap (λ f. first_of f (first_fault (above ++ line ∷ []) (file_texts pairs))) first
    ∙ pairs-faultless (above ++ line ∷ []) _ pairs (more_pairs above here line p.0 p.1 one each.0.kind) each.1
    (all_others (λ text. length text ≤ 1024) line (pair_texts pairs) short)

-- ---- how long it is

lines-short : (texts : List (List ℕ)) → All (λ text. length text ≤ 1024) texts → length (ended_lines texts) ≤ 1025 * length texts
unfolding ended_lines
lines-short [] short = omega arith
lines-short (text ∷ texts) short =
    let first = all_first (λ (t : List ℕ). length t ≤ 1024) text texts short in
    let more = lines-short texts (all_others (λ (t : List ℕ). length t ≤ 1024) text texts short) in
    omega (arith, first, more, length-append text (10 ∷ []), length-append (ended_line text) (ended_lines texts))

-- ---- the whole file

module _ (name : List ℕ) (is : is_name name ≡ true) (pairs : List (List ℕ × List ℕ)) (each : Each IsSaid pairs) where
  abbrev file : List ℕ
  file = ended_line (header_text name) ++ ended_lines (pair_texts pairs)

  lines : cut_lines file ≡ header_text name ∷ file_texts pairs
  lines =
      cut_line (header_text name) (ended_lines (pair_texts pairs)) (header-no_feed name is)
      ∙ ap (λ rest. header_text name ∷ rest) (pairs-cut pairs each)

  pub file-section : sections_in file ≡ lone_section name (map line_of pairs) ∷ []
  unfolding sections_in sections_in_lines sections_of
  file-section =
      ap sections_in_lines lines
      ∙ ap (λ kind. sections_of (kind ∷ map line_kind (file_texts pairs))) (header-kind name is)
      ∙ ap (λ ls. lone_section name ls ∷ sections_of (map line_kind (file_texts pairs))) (pairs-are pairs each)
      ∙ ap (λ (ss : List Section). lone_section name (map line_of pairs) ∷ ss) (no-sections pairs each)

  head_section : sections_in_lines (header_text name ∷ []) ≡ lone_section name [] ∷ []
  unfolding sections_in_lines sections_of
  head_section = ap (λ kind. sections_of (kind ∷ [])) (header-kind name is)

  pub file-faultless : length pairs ≤ 213 → All (λ text. length text ≤ 1024) (pair_texts pairs) → fault_of file ≡ None
  unfolding first_fault sections_in_lines sections_of
  file-faultless few short =
      let rest = lines-short (pair_texts pairs) short in
      let head = header-short name is in
      let fits : length file ≤ 1048576 =
      omega (
        arith,
        few,
        rest,
        head,
        length-map pairs pair_text,
        length-append (header_text name) (10 ∷ []),
        length-append (ended_line (header_text name)) (ended_lines (pair_texts pairs)),
      ) in
      fault_of-fits file fits
      ∙ ap (first_fault []) lines
      ∙ ap (λ f. first_of f (first_fault (header_text name ∷ []) (file_texts pairs)))
      (no_line_fault 1 0 (header_text name) (header name None) head (header-kind name is) refl)
      ∙ pairs-faultless (header_text name ∷ []) (lone_section name []) pairs head_section each short
