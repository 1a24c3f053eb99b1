-- The line of a pair that is told says the pair, and is one line.
use Rattle.std.proofs.Common.{◌≡◌, ℕ, ◌+◌, ◌-◌, ◌<◌, ◌≤◌, ◌==◌, nat_lt, nat_le, ◌&&◌, Bool, true, false, not, List, [], ◌∷◌, ◌++◌, Option, Some, None, length, take, slice_index, if◌then◌else◌, refl, sym, ap, subst, ◌∙◌, arith, append_assoc, append-nil, length-append, length-drop, ⊎_elim}
use Rattle.std.specs.Prelude.{All, codes, option_and_then}
use Rattle.std.specs.List.{list_all, list_any, position_or_len}
use Rattle.std.specs.Str.{bytes_eq}
use Rattle.std.specs.Str.Lines.{strip_carriage_return}
use Rattle.std.proofs.Math.Bool.{and-false}
use Rattle.std.proofs.lemmas.Bool.{and_from, and_parts, cases_Bool, leb-true, ltb-true, ne_eqb}
use Rattle.std.proofs.lemmas.List.{get_or-append-add, length-take-le}
use Rattle.std.proofs.lemmas.List.Folds.{list_all-append}
use Rattle.std.proofs.lemmas.Slice.Eq.{bytes_eq-Decides}
use Rattle.foundation.specs.Cuts.{cut}
use Rattle.fen_model.proofs.JoinLaws.{Lacks}
use Rattle.io_ports.specs.Lines.{line_feed}
use Rattle.strategy.proofs.BackLemmas.{cut-word}
use Rattle.strategy.proofs.LineLaws.{IsLine}
use Rattle.variant_ini.specs.Cuts.{trimmed}
use Rattle.variant_ini.specs.LineKind.{comment, foreign, header_of, is_comment, kind_from, line_kind, pair_from, pair_of, text_kind}
use Rattle.variant_ini.specs.Section.{key_line}
use Rattle.variant_ini.proofs.TrimLemmas.{IsBare, bare-trimmed, blank-after, blank-before, trimmed-bare, trimmed-short}
use Rattle.proof_text.specs.Pairs.{compact, if_read_back, is_pair, is_read_back, pair_said}
use Rattle.proof_text.specs.Writing.{pair_text}

-- ---- keys

-- the key is not empty, has no blank at its ends, no `=` and no line feed
abbrev pub is_plain : List ℕ → Bool
is_plain key =
    bytes_eq (trimmed key) key
    && (nat_lt 0 (length key) && (list_all (λ b. not (b == 61)) key && list_all (λ b. not (b == 10)) key))

pub record IsPlain (key : List ℕ) : Type 0 where
  pub bare : IsBare key
  pub some : 0 < length key
  pub no_sign : Lacks 61 key
  pub no_feed : Lacks 10 key

pub plain-parts : (key : List ℕ) → is_plain key ≡ true → IsPlain key
plain-parts key is =
    let sign = list_all (λ b. not (b == 61)) key in
    let feed = list_all (λ b. not (b == 10)) key in
    let one = and_parts (bytes_eq (trimmed key) key) (nat_lt 0 (length key) && (sign && feed)) is in
    let two = and_parts (nat_lt 0 (length key)) (sign && feed) one.1 in
    let three = and_parts sign feed two.1 in
    record {
      bare = subst IsBare ((bytes_eq-Decides (trimmed key) key).0 one.0) (trimmed-bare key);
      some = ltb-true 0 (length key) two.0;
      no_sign = three.0;
      no_feed = three.1;
    }

-- ---- pairs that are told back

-- the compact line of the pair is read back, and its value has no line feed
pub record IsToldBack (pair : List ℕ × List ℕ) : Type 0 where
  pub read_back : is_read_back pair ≡ true
  pub no_feed : Lacks line_feed pair.1

-- each of the pairs is told back
abbrev pub AreToldBack : List (List ℕ × List ℕ) → Type 0
AreToldBack pairs = All IsToldBack pairs

-- ---- a text that says a pair

-- it is cut at its first `=`, and the parts without their outer blanks are the pair
record IsCut (text key value : List ℕ) : Type 0 where
  before : List ℕ
  after : List ℕ
  parts : cut 61 text ≡ (before, Some after)
  is_key : trimmed before ≡ key
  is_value : trimmed after ≡ value

abbrev unless_empty : Bool → List ℕ × List ℕ → Option (List ℕ × List ℕ)
unless_empty is_empty words = if is_empty then None else Some words

pair-cut : (text key value : List ℕ) → pair_of text ≡ Some (key, value) → IsCut text key value
unfolding pair_of
pair-cut text key value says = go (cut 61 text).0 (cut 61 text).1 refl says
  where
    taken : (before after : List ℕ) (t : Bool) → cut 61 text ≡ (before, Some after)
        → unless_empty t (trimmed before, trimmed after) ≡ Some (key, value) → IsCut text key value
    taken before after true parts is = absurd (cc)
    taken before after false parts is =
        let read : List ℕ × List ℕ = (trimmed before, trimmed after) in
        let wanted : List ℕ × List ℕ = (key, value) in
        let same : read ≡ wanted = cc in
        record {
          before = before;
          after = after;
          parts = parts;
          is_key = ap (λ w. w.0) same;
          is_value = ap (λ w. w.1) same;
        }

    go : (before : List ℕ) (rest : Option (List ℕ)) → cut 61 text ≡ (before, rest)
        → pair_from before rest ≡ Some (key, value) → IsCut text key value
    go before None parts is = absurd (cc)
    go before (Some after) parts is = taken before after (length (trimmed before) == 0) parts is

-- ---- how long the parts are

abbrev left : Option (List ℕ) → ℕ
left None = 0
left (Some text) = length text + 1

abbrev parts_length : List ℕ × Option (List ℕ) → ℕ
parts_length parts = length parts.0 + left parts.1

abbrev is_sign : ℕ → Bool
is_sign b = b == 61

cut-short : (text : List ℕ) → parts_length (cut 61 text) ≤ length text
unfolding cut
cut-short text =
    let place = position_or_len is_sign text in
    ⊎_elim
    (λ (y : nat_lt place (length text) ≡ true).
    let within : place < length text = ltb-true _ _ y in
    rw y (omega (arith, within, length-drop (place + 1) text, length-take-le place text (omega (arith, within)))))
    (λ (n : nat_lt place (length text) ≡ false). rw n (omega arith))
    (cases_Bool (nat_lt place (length text)))

cut-long : (text key value : List ℕ) → IsCut text key value → length key + 1 + length value ≤ length text
cut-long text key value c =
    let whole : length c.before + (length c.after + 1) ≤ length text =
    subst (λ p. parts_length p ≤ length text) c.parts (cut-short text) in
    let key_short = trimmed-short c.before in
    let value_short = trimmed-short c.after in
    let key_long = ap length c.is_key in
    let value_long = ap length c.is_value in
    omega (arith, whole, key_short, value_short, key_long, value_long)

-- ---- a pair that is read back

-- the compact line without a final carriage return and without outer blanks
abbrev inner : List ℕ × List ℕ → List ℕ
inner pair = trimmed (strip_carriage_return (compact pair))

kind-pair : (pair : List ℕ × List ℕ) (t u : Bool) (names : Option (List ℕ × Option (List ℕ)))
    (said : Option (List ℕ × List ℕ))
    → is_pair pair (if t then comment else if u then foreign else kind_from names said) ≡ true → said ≡ Some pair
kind-pair pair true u names said is = absurd (cc)
kind-pair pair false true names said is = absurd (cc)
kind-pair pair false false (Some parts) said is = absurd (cc)
kind-pair pair false false None None is = absurd (cc)
kind-pair pair false false None (Some words) is =
    let both = and_parts (bytes_eq words.0 pair.0) (bytes_eq words.1 pair.1) is in
    let key = (bytes_eq-Decides words.0 pair.0).0 both.0 in
    let value = (bytes_eq-Decides words.1 pair.1).0 both.1 in
    λ i. Some (key i, value i)

-- it is not too long, and its inner text is cut into the pair
read-back : (pair : List ℕ × List ℕ) → is_read_back pair ≡ true
    → (length (compact pair) ≤ 1024) × (pair_of (inner pair) ≡ Some pair)
unfolding is_read_back line_kind text_kind
read-back pair is =
    let text = inner pair in
    let both = and_parts (nat_le (length (compact pair)) 1024) (is_pair pair (line_kind (compact pair))) is in (
      leb-true (length (compact pair)) 1024 both.0,
      kind-pair pair (is_comment text) (list_any (nat_le 128) text) (header_of text) (pair_of text) both.1,
    )

-- the last byte of a text
abbrev pub last_of : List ℕ → ℕ
last_of text = slice_index text (length text - 1)

pub compact-long : (pair : List ℕ × List ℕ) → length (compact pair) ≡ length pair.0 + 1 + length pair.1
compact-long pair = omega (arith, length-append pair.0 (codes "="), length-append (pair.0 ++ codes "=") pair.1)

-- its compact line does not end in a carriage return, which would be no part of the value
no-return : (pair : List ℕ × List ℕ) → IsCut (inner pair) pair.0 pair.1 → (last_of (compact pair) == 13) ≡ false
no-return pair c = go (last_of (compact pair) == 13) refl
  where
    go : (t : Bool) → (last_of (compact pair) == 13) ≡ t → (last_of (compact pair) == 13) ≡ false
    go false is = is
    go true is =
        let line = compact pair in
        let stripped : strip_carriage_return line ≡ take (length line - 1) line =
        ap (λ u. if u then take (length line - 1) line else line) is in
        let long = compact-long pair in
        let short = length-take-le (length line - 1) line (omega arith) in
        let less = trimmed-short (strip_carriage_return line) in
        let same = ap length stripped in
        let whole = cut-long (inner pair) pair.0 pair.1 c in
        absurd (omega (arith, long, short, less, same, whole))

value-bare : (pair : List ℕ × List ℕ) → IsCut (inner pair) pair.0 pair.1 → IsBare pair.1
value-bare pair c = subst IsBare c.is_value (trimmed-bare c.after)

-- ---- the line says the pair

line-cut : (key value : List ℕ) → Lacks 61 key → cut 61 (pair_text (key, value)) ≡ (key ++ 32 ∷ [], Some (32 ∷ value))
line-cut key value lacks =
    ap (cut 61) (append_assoc key (codes " = ") value ∙ sym (append_assoc key (32 ∷ []) (61 ∷ 32 ∷ value)))
    ∙ cut-word 61 (key ++ 32 ∷ []) (32 ∷ value)
    (list_all-append (λ b. not (b == 61)) key (32 ∷ []) ∙ and_from _ _ lacks refl)

pub line-pair : (key value : List ℕ) → IsPlain key → IsBare value → pair_of (pair_text (key, value)) ≡ Some (key, value)
unfolding pair_of
line-pair [] value plain bare = let some = plain.some in absurd (omega (arith, some))
line-pair (b ∷ key) value plain bare =
    let some : (length (b ∷ key) == 0) ≡ false = ne_eqb (length (b ∷ key)) 0 (λ e. absurd (omega (arith, e))) in
    ap (λ c. pair_from c.0 c.1) (line-cut (b ∷ key) value plain.no_sign)
    ∙ ap (λ k. unless_empty (length k == 0) (k, trimmed (32 ∷ value))) (blank-after b key plain.bare)
    ∙ ap (λ t. unless_empty t (b ∷ key, trimmed (32 ∷ value))) some
    ∙ ap (λ v. unless_empty false (b ∷ key, v)) (blank-before value ∙ bare-trimmed value bare)

pub pair-back : (pair : List ℕ × List ℕ) → is_plain pair.0 ≡ true → IsToldBack pair
    → pair_said (pair_text pair) ≡ Some (key_line pair.0 pair.1)
unfolding pair_said
pair-back pair plain back =
    let cut = pair-cut (inner pair) pair.0 pair.1 (read-back pair back.read_back).1 in
    ap (λ o. option_and_then if_read_back o) (line-pair pair.0 pair.1 (plain-parts pair.0 plain) (value-bare pair cut))
    ∙ ap (λ t. if t then Some (key_line pair.0 pair.1) else None) back.read_back

-- ---- the line is one line

pub last-append : (xs : List ℕ) (y : ℕ) (ys : List ℕ) → last_of (xs ++ y ∷ ys) ≡ last_of (y ∷ ys)
last-append xs y ys =
    let place : length (xs ++ y ∷ ys) - 1 ≡ length xs + (length (y ∷ ys) - 1) =
    omega (arith, length-append xs (y ∷ ys)) in
    ap (slice_index (xs ++ y ∷ ys)) place ∙ get_or-append-add xs (y ∷ ys) (length (y ∷ ys) - 1) 0

line-end : (key value : List ℕ) → (last_of (compact (key, value)) == 13) ≡ false
    → (last_of (pair_text (key, value)) == 13) ≡ false
line-end key [] no_return =
    ap (λ text. last_of text == 13) (append-nil (key ++ codes " = "))
    ∙ ap (λ b. b == 13) (last-append key 32 (codes "= "))
line-end key (b ∷ value) no_return =
    ap (λ l. l == 13) (last-append (key ++ codes " = ") b value ∙ sym (last-append (key ++ codes "=") b value))
    ∙ no_return

line-no_feed : (key value : List ℕ) → Lacks 10 key → Lacks 10 value → Lacks 10 (pair_text (key, value))
line-no_feed key value k v =
    list_all-append (λ b. not (b == 10)) (key ++ codes " = ") value
    ∙ and_from _ _ (list_all-append (λ b. not (b == 10)) key (codes " = ") ∙ and_from _ _ k refl) v

pub pair-line : (pair : List ℕ × List ℕ) → is_plain pair.0 ≡ true → IsToldBack pair → IsLine (pair_text pair)
pair-line pair plain back =
    let read = read-back pair back.read_back in
    let no_return = line-end pair.0 pair.1 (no-return pair (pair-cut (inner pair) pair.0 pair.1 read.1)) in
    let some = nat_lt 0 (length (pair_text pair)) in
    let short = read.0 in
    let long = compact-long pair in
    record {
      no_feed = line-no_feed pair.0 pair.1 (plain-parts pair.0 plain).no_feed back.no_feed;
      no_return = ap (λ t. some && t) no_return ∙ and-false some;
      short =
          omega (arith, short, long, length-append pair.0 (codes " = "), length-append (pair.0 ++ codes " = ") pair.1);
    }
