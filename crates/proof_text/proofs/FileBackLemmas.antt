-- The pairs that an accepted section of files tells are told back.
use Rattle.std.proofs.Common.{◌≡◌, ℕ, ◌-◌, ◌≤◌, ◌==◌, nat_lt, nat_le, ◌&&◌, ◌||◌, Bool, true, false, not, List, [], ◌∷◌, ◌++◌, Option, Some, None, length, reverse, take, slice_index, if◌then◌else◌, refl, sym, ap, subst, ◌∙◌, arith, append_assoc, append-nil, true≢false}
use Rattle.std.specs.Prelude.{All, codes}
use Rattle.std.specs.Io.BufRead.{ends_with_byte}
use Rattle.std.specs.List.{list_all, list_any}
use Rattle.std.specs.Str.Lines.{strip_carriage_return}
use Rattle.std.proofs.lemmas.Bool.{and_from, and_parts, le-leb, lt-ltb, ne_eqb, or_from, or_parts}
use Rattle.std.proofs.lemmas.List.{length-reverse, reverse-append}
use Rattle.std.proofs.lemmas.List.Elements.{All-cons, All-head, All-nil, All-tail}
use Rattle.std.proofs.lemmas.List.Folds.{list_any-append}
use Rattle.std.proofs.lemmas.Slice.Eq.{bytes_eq-Decides}
use Rattle.foundation.specs.Cuts.{cut}
use Rattle.fen_model.proofs.JoinLaws.{Each}
use Rattle.strategy.proofs.BackLemmas.{cut-word}
use Rattle.variant_ini.specs.Cuts.{is_feed, trimmed}
use Rattle.variant_ini.specs.FileLines.{IsFileLine}
use Rattle.variant_ini.specs.LineKind.{comment, foreign, header_of, inside_header, is_comment, kind_from, line_kind, pair, pair_from, pair_of, text_kind}
use Rattle.variant_ini.specs.Section.{Section}
use Rattle.variant_ini.proofs.TrimLemmas.{BeginsBare, IsBare, bare-first, bare-trimmed, trimmed-bare}
use Rattle.variant_options.specs.Keys.{all_keys, in_order, key_inserted, ordered_keys}
use Rattle.variant_options.specs.Options.{options}
use Rattle.variant_model.specs.Told.{line_of, told}
use Rattle.proof_text.specs.Pairs.{compact, is_pair, is_read_back}
use Rattle.proof_text.proofs.PairBackLemmas.{AreToldBack, IsPlain, IsToldBack, compact-long, is_plain, last-append, last_of, plain-parts}
use Rattle.proof_text.proofs.ToldBackLemmas.{KeyPasses, keys-plain, told-passes}

-- the key begins no comment and no header, and has no byte above 127
abbrev pub is_firm : List ℕ → Bool
is_firm [] = false
is_firm (b ∷ key) = not (b == 35 || b == 59) && (not (b == 91) && not (list_any (nat_le 128) (b ∷ key)))

abbrev unless_empty : Bool → List ℕ × List ℕ → Option (List ℕ × List ℕ)
unless_empty is_empty words = if is_empty then None else Some words

lacks_feed : (text : List ℕ) → list_any is_feed text ≡ false → list_all (λ b. not (b == 10)) text ≡ true
lacks_feed [] none = refl
lacks_feed (b ∷ text) none =
    let both = or_parts (is_feed b) (list_any is_feed text) none in
    and_from _ _ (ap (λ t. not t) both.0) (lacks_feed text both.1)

second_false : (a b : Bool) → a ≡ true → (a && b) ≡ false → b ≡ false
second_false true b is none = none
second_false false b is none = cc

not_true : (t : Bool) → not t ≡ true → t ≡ false
not_true true is = sym is
not_true false is = refl

-- ---- the compact line is as it stands

module _ (b : ℕ) (text value : List ℕ) (plain : IsPlain (b ∷ text)) (is_file : IsFileLine (line_of (b ∷ text, value)))
    (no_return : ends_with_byte 13 value ≡ false) where
  abbrev key : List ℕ
  key = b ∷ text

  abbrev line : List ℕ
  line = compact (key, value)

  value_bare : IsBare value
  value_bare = subst IsBare is_file.trim (trimmed-bare value)

  more_bare : (front back : List ℕ) → nat_lt 0 (length front) ≡ true → BeginsBare front → BeginsBare (front ++ back)
  more_bare [] back some bare = absurd (true≢false (sym some))
  more_bare (a ∷ front) back some bare = bare-first a front (front ++ back) bare

  back_bare : (v : List ℕ) → IsBare v → BeginsBare (reverse (key ++ codes "=" ++ v))
  back_bare [] bare =
      let front : BeginsBare (reverse (key ++ codes "=")) = subst BeginsBare (sym (reverse-append key (codes "="))) refl in
      subst (λ t. BeginsBare (reverse t)) (sym (append-nil (key ++ codes "="))) front
  back_bare (c ∷ v) bare =
      let some : nat_lt 0 (length (reverse (c ∷ v))) ≡ true = lt-ltb 0 _ (omega (arith, length-reverse (c ∷ v))) in
      subst BeginsBare (sym (reverse-append (key ++ codes "=") (c ∷ v)))
      (more_bare (reverse (c ∷ v)) (reverse (key ++ codes "=")) some bare.back)

  line_bare : IsBare line
  line_bare = record { front = bare-first b text (text ++ codes "=" ++ value) plain.bare.front; back = back_bare value value_bare }

  not_returned : (v : List ℕ) → ends_with_byte 13 v ≡ false → (last_of (key ++ codes "=" ++ v) == 13) ≡ false
  not_returned [] none =
      ap (λ l. l == 13) (ap last_of (append-nil (key ++ codes "=")) ∙ last-append key 61 [])
  not_returned (c ∷ v) none =
      ap (λ l. l == 13) (last-append (key ++ codes "=") c v)
      ∙ second_false (nat_lt 0 (length (c ∷ v))) (last_of (c ∷ v) == 13) (lt-ltb 0 (length (c ∷ v)) (omega arith)) none

  stripped : strip_carriage_return line ≡ line
  stripped = ap (λ t. if t then take (length line - 1) line else line) (not_returned value no_return)

  -- ---- what it says

  says_pair : pair_of line ≡ Some (key, value)
  unfolding pair_of
  says_pair =
      let some : (length key == 0) ≡ false = ne_eqb (length key) 0 (λ e. absurd (omega (arith, e))) in
      ap (λ c. pair_from c.0 c.1) (ap (cut 61) (append_assoc key (codes "=") value) ∙ cut-word 61 key value plain.no_sign)
      ∙ ap (λ k. unless_empty (length k == 0) (k, trimmed value)) (bare-trimmed key plain.bare)
      ∙ ap (λ t. unless_empty t (key, trimmed value)) some
      ∙ ap (λ v. unless_empty false (key, v)) is_file.trim

  no_foreign : list_any (nat_le 128) key ≡ false → list_any (nat_le 128) line ≡ false
  no_foreign none =
      list_any-append (nat_le 128) (key ++ codes "=") value
      ∙ or_from _ _ (list_any-append (nat_le 128) key (codes "=") ∙ or_from _ _ none refl) is_file.ascii

  abbrev inside : List ℕ
  inside = text ++ codes "=" ++ value

  no_header : (b == 91) ≡ false → header_of line ≡ None
  unfolding header_of
  no_header is =
      ap (λ (t : Bool). inside_header (if◌then◌else◌ {A = Option (List ℕ)} (t && (slice_index inside (length inside - 1) == 93)) (Some (take (length inside - 1) inside)) None)) is

  kind_of : is_comment line ≡ false → list_any (nat_le 128) line ≡ false → header_of line ≡ None → line_kind line ≡ pair key value
  unfolding line_kind text_kind
  kind_of no_comment ascii no_header =
      ap text_kind (ap trimmed stripped ∙ bare-trimmed line line_bare)
      ∙ ap (λ t. if t then comment else if list_any (nat_le 128) line then foreign else kind_from (header_of line) (pair_of line)) no_comment
      ∙ ap (λ t. if t then foreign else kind_from (header_of line) (pair_of line)) ascii
      ∙ ap (λ h. kind_from h (pair_of line)) no_header
      ∙ ap (λ p. kind_from None p) says_pair

pub file-back : (pair : List ℕ × List ℕ) → is_plain pair.0 ≡ true → is_firm pair.0 ≡ true → IsFileLine (line_of pair)
    → ends_with_byte 13 pair.1 ≡ false → IsToldBack pair
unfolding is_read_back
file-back ([], value) plain firm is_file no_return = absurd (true≢false (sym firm))
file-back (b ∷ text, value) plain firm is_file no_return =
    let high = list_any (nat_le 128) (b ∷ text) in
    let one = and_parts (not (b == 35 || b == 59)) (not (b == 91) && not high) firm in
    let two = and_parts (not (b == 91)) (not high) one.1 in
    let parts = plain-parts (b ∷ text) plain in
    let kind = kind_of b text value parts is_file no_return (not_true _ one.0)
    (no_foreign b text value parts is_file no_return (not_true _ two.1))
    (no_header b text value parts is_file no_return (not_true _ two.0)) in
    let same = and_from _ _ ((bytes_eq-Decides (b ∷ text) (b ∷ text)).1 refl) ((bytes_eq-Decides value value).1 refl) in
    let short = is_file.short in
    let long = compact-long (b ∷ text, value) in
    let fits : length (compact (b ∷ text, value)) ≤ 1024 = omega (arith, short, long) in
    record {
      read_back = and_from _ _ (le-leb (length (compact (b ∷ text, value))) 1024 fits) (ap (is_pair (b ∷ text, value)) kind ∙ same);
      no_feed = lacks_feed value is_file.one_line;
    }

-- ---- all pairs

pub keys-firm : list_all is_firm ordered_keys ≡ true
unfolding all_keys in_order key_inserted ordered_keys options
keys-firm = refl

abbrev AreLines : List (List ℕ × List ℕ) → Type 0
AreLines pairs = All (λ pair. IsFileLine (line_of pair)) pairs

abbrev EndInNoReturn : List (List ℕ × List ℕ) → Type 0
EndInNoReturn pairs = All (λ pair. ends_with_byte 13 pair.1 ≡ false) pairs

pairs-back : (pairs : List (List ℕ × List ℕ)) → Each (KeyPasses is_plain) pairs → Each (KeyPasses is_firm) pairs
    → AreLines pairs → EndInNoReturn pairs → AreToldBack pairs
pairs-back [] plain firm lines none = All-nil IsToldBack
pairs-back (one ∷ pairs) plain firm lines none =
    All-cons IsToldBack one pairs
    (file-back one plain.0 firm.0 (All-head (λ p. IsFileLine (line_of p)) one pairs lines)
    (All-head (λ (p : List ℕ × List ℕ). ends_with_byte 13 p.1 ≡ false) one pairs none))
    (pairs-back pairs plain.1 firm.1 (All-tail (λ p. IsFileLine (line_of p)) one pairs lines)
    (All-tail (λ (p : List ℕ × List ℕ). ends_with_byte 13 p.1 ≡ false) one pairs none))

pub told-back : (sections : List Section) (place : ℕ) → AreLines (told sections place) → EndInNoReturn (told sections place)
    → AreToldBack (told sections place)
told-back sections place lines none =
    pairs-back (told sections place) (told-passes is_plain sections place keys-plain)
    (told-passes is_firm sections place keys-firm) lines none
