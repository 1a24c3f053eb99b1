-- Texts that end in a carriage return.
use Rattle.std.proofs.Common.{◌≡◌, ℕ, suc, ◌+◌, ◌-◌, ◌==◌, Bool, true, false, not, ◌||◌, ◌&&◌, is_none, nat_lt, List, [], ◌∷◌, Option, Some, None, length, drop, filter, refl, sym, ap, ◌∙◌, arith, cond, slice_index}
use Rattle.std.specs.Prelude.{if◌then◌else◌}
use Rattle.std.specs.Io.BufRead.{ends_with_byte}
use Rattle.std.specs.List.{list_all, list_any, onto_first, prefix_len, slice_split}
use Rattle.std.specs.Str.{bytes_eq}
use Rattle.std.proofs.lemmas.Bool.{and_parts, both_ways, eqb-true, false_from_ne_true, lt-ltb, ne_eqb, or_left, or_right}
use Rattle.std.proofs.lemmas.Slice.Eq.{bytes_eq-Decides}
use Rattle.foundation.specs.Numbers.{are_digits, is_digit, is_number, number_of, value_of}

-- the last byte is a carriage return
abbrev pub ends_in_return : List ℕ → Bool
ends_in_return [] = false
ends_in_return (b ∷ []) = b == 13
ends_in_return (b ∷ c ∷ bs) = ends_in_return (c ∷ bs)

-- so says std's test of the last byte
pub ends_alike : (text : List ℕ) → ends_with_byte 13 text ≡ ends_in_return text
ends_alike [] = refl
ends_alike (b ∷ []) = refl
ends_alike (b ∷ c ∷ bs) =
    let last : length (b ∷ c ∷ bs) - 1 ≡ suc (length (c ∷ bs) - 1) = omega arith in
    let long = lt-ltb 0 (length (b ∷ c ∷ bs)) (omega arith) in
    let some = lt-ltb 0 (length (c ∷ bs)) (omega arith) in
    (λ i. long i && (slice_index (b ∷ c ∷ bs) (last i) == 13))
    ∙ ap (λ has. has && (slice_index (c ∷ bs) (length (c ∷ bs) - 1) == 13)) (sym some)
    ∙ ends_alike (c ∷ bs)

-- ---- the last byte

-- a reading that says something
abbrev pub Says : {X : Type 0} → Option X → Type 0
Says o = is_none o ≡ false

-- a reading that a carriage return has not says nothing of a byte that is one
pub byte_says : {X : Type 0} (say : ℕ → Option X) → say 13 ≡ None → (b : ℕ) → Says (say b) → (b == 13) ≡ false
byte_says say none b says =
    false_from_ne_true (b == 13)
    (λ is.
    both_ways (is_none (say b)) says (ap (λ c. is_none (say c)) (eqb-true b 13 is) ∙ ap is_none none))

pub same_text : (text word : List ℕ) → ends_in_return word ≡ false → bytes_eq text word ≡ true
    → ends_in_return text ≡ false
same_text text word none e = ap ends_in_return ((bytes_eq-Decides text word).0 e) ∙ none

-- the last word
abbrev pub last_word : List (List ℕ) → List ℕ
last_word [] = []
last_word (word ∷ []) = word
last_word (word ∷ other ∷ words) = last_word (other ∷ words)

module _ (test : ℕ → Bool) (fails : test 13 ≡ false) where
  -- a byte that passes a test is no carriage return, which fails it
  pub byte_passes : (b : ℕ) → test b ≡ true → (b == 13) ≡ false
  byte_passes b passes =
      false_from_ne_true (b == 13) (λ is. both_ways (test b) (ap test (eqb-true b 13 is) ∙ fails) passes)

  pub all_pass : (text : List ℕ) → list_all test text ≡ true → ends_in_return text ≡ false
  all_pass [] passes = refl
  all_pass (b ∷ []) passes = byte_passes b (and_parts (test b) true passes).0
  all_pass (b ∷ c ∷ bs) passes = all_pass (c ∷ bs) (and_parts (test b) (list_all test (c ∷ bs)) passes).1

  split_step : (cuts : Bool) (b : ℕ) (words : List (List ℕ)) → ends_in_return (last_word words) ≡ true
      → ends_in_return (last_word (cond cuts ([] ∷ words) (onto_first b words))) ≡ true
  split_step cuts b [] e = cc
  split_step true b (word ∷ words) e = e
  split_step false b ([] ∷ []) e = cc
  split_step false b ((c ∷ word) ∷ []) e = e
  split_step false b (word ∷ other ∷ words) e = e

  -- where a text that is split ends in a return, so does its last part
  pub split_ends : (text : List ℕ) → ends_in_return text ≡ true
      → ends_in_return (last_word (slice_split test text)) ≡ true
  split_ends [] e = e
  split_ends (b ∷ []) e =
      let uncut : test b ≡ false = ap test (eqb-true b 13 e) ∙ fails in
      ap (λ cuts. ends_in_return (last_word (cond cuts ([] ∷ [] ∷ []) ((b ∷ []) ∷ [])))) uncut ∙ e
  split_ends (b ∷ c ∷ bs) e = split_step (test b) b (slice_split test (c ∷ bs)) (split_ends (c ∷ bs) e)

  skip_step : (passes : Bool) (b : ℕ) (n : ℕ) (text : List ℕ) → ends_in_return (b ∷ text) ≡ true
      → ends_in_return (drop n text) ≡ true → ends_in_return (drop (cond passes (1 + n) 0) (b ∷ text)) ≡ true
  skip_step true b n text e rest = let next : 1 + n ≡ suc n = omega arith in rw next rest
  skip_step false b n text e rest = e

  -- where a text ends in a return, so does what is after its first bytes that pass
  pub skip_ends : (text : List ℕ) → ends_in_return text ≡ true
      → ends_in_return (drop (prefix_len test text) text) ≡ true
  skip_ends [] e = e
  skip_ends (b ∷ []) e =
      let stops : test b ≡ false = ap test (eqb-true b 13 e) ∙ fails in
      ap (λ passes. ends_in_return (drop (cond passes 1 0) (b ∷ []))) stops ∙ e
  skip_ends (b ∷ c ∷ bs) e =
      skip_step (test b) b (prefix_len test (c ∷ bs)) (c ∷ bs) e (skip_ends (c ∷ bs) e)

-- ---- words

-- where the last word ends in a return, some word does
pub last_any : (words : List (List ℕ)) → ends_in_return (last_word words) ≡ true → list_any ends_in_return words ≡ true
last_any [] e = e
last_any (word ∷ []) e = or_left (ends_in_return word) false e
last_any (word ∷ other ∷ words) e =
    or_right (ends_in_return word) (list_any ends_in_return (other ∷ words)) (last_any (other ∷ words) e)

or_later : (a b c : Bool) → (b ≡ true → c ≡ true) → (a || b) ≡ true → (a || c) ≡ true
or_later true b c more e = refl
or_later false b c more e = more e

-- and some word that is not empty
pub nonempty_any : (words : List (List ℕ)) → list_any ends_in_return words ≡ true
    → list_any ends_in_return (filter (λ word. not (length word == 0)) words) ≡ true
nonempty_any [] e = e
nonempty_any ([] ∷ words) e = nonempty_any words e
nonempty_any ((b ∷ word) ∷ words) e =
    let some = ne_eqb (length (b ∷ word)) 0 (λ none. omega arith) in
    let rest = filter (λ word. not (length word == 0)) words in
    ap (λ empty. list_any ends_in_return (cond (not empty) ((b ∷ word) ∷ rest) rest)) some
    ∙ or_later (ends_in_return (b ∷ word)) (list_any ends_in_return words) (list_any ends_in_return rest)
    (nonempty_any words) e

-- ---- digits

pub said_first : {X : Type 0} (b : Bool) (x : X) → Says (if b then Some x else None) → b ≡ true
said_first true x says = refl
said_first false x says = cc

-- a number is written in digits alone
pub number_digits : (text : List ℕ) → Says (number_of text) → are_digits text ≡ true
unfolding number_of is_number
number_digits text says = (and_parts (are_digits text) _ (said_first (is_number text) (value_of text) says)).0

pub digits_end : (text : List ℕ) → are_digits text ≡ true → ends_in_return text ≡ false
unfolding are_digits
digits_end text digits = all_pass is_digit refl text (and_parts (nat_lt 0 (length text)) _ digits).1

-- a byte, and digits after it
pub digits_behind : (b : ℕ) (text : List ℕ) → are_digits text ≡ true → ends_in_return (b ∷ text) ≡ false
unfolding are_digits
digits_behind b [] digits = cc
digits_behind b (c ∷ bs) digits = digits_end (c ∷ bs) digits
