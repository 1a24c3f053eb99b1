-- No value of an option ends in a carriage return. The text of the start may be any text here: what it says is judged
-- when the rules are known.
use Rattle.std.proofs.Common.{◌≡◌, ℕ, ◌-◌, ◌==◌, Bool, true, false, ◌&&◌, nat_lt, List, [], ◌∷◌, Option, Some, None, length, codes, refl, option_and_then}
use Rattle.std.specs.Prelude.{if◌then◌else◌}
use Rattle.std.specs.List.{list_all, list_any, slice_split}
use Rattle.std.specs.Option.{option_map, option_or}
use Rattle.std.specs.Str.{bytes_eq}
use Rattle.std.proofs.lemmas.Bool.{and_parts, both_ways, false_from_ne_true, or_from}
use Rattle.foundation.specs.Numbers.{are_digits, number_of, number_within, within}
use Rattle.foundation.specs.Tests.{is_nil}
use Rattle.rules_model.specs.declared.moves.Value.TheVariants.{Draw, Loss, Win}
use Rattle.variant_options.specs.declared.value.Listed.TheVariants.{All, Only}
use Rattle.variant_options.specs.declared.value.ValueKind.{ValueKind}
use Rattle.variant_options.specs.declared.value.ValueKind.TheVariants as kind
use Rattle.variant_options.specs.Letters.{letter_of, mask_in}
use Rattle.variant_options.specs.Options.{read}
use Rattle.variant_options.specs.Readings.{area_of, area_on, is_letter_or_space, is_star, lettered_file, pair_of_kinds, paired, read_file, read_flag, read_fold, read_letter, read_letters, read_letters_or_all, read_result, read_result_or_none, region_of}
use Rattle.variant_options.specs.Words.{each_said, is_hyphen, is_space, listed, onto, said_by_words, words_of}
use Rattle.variant_model.proofs.TextEnds.{Says, all_pass, byte_passes, byte_says, digits_behind, digits_end, ends_in_return, last_any, nonempty_any, number_digits, said_first, same_text, split_ends}

-- ---- readings that say something

module _ {X : Type 0} where
  first_or : (b : Bool) (x : X) (rest : Option X) (P : Type 0) → (b ≡ true → P) → (Says rest → P)
      → Says (if b then Some x else rest) → P
  first_or true x rest P first later says = first refl
  first_or false x rest P first later says = later says

  either_or : (a b : Option X) (P : Type 0) → (Says a → P) → (Says b → P) → Says (option_or a b) → P
  either_or (Some x) b P first later says = first refl
  either_or None b P first later says = later says

  said_unless : (b : Bool) (o : Option X) → Says (if b then None else o) → Says o
  said_unless true o says = cc
  said_unless false o says = says

module _ {X Y : Type 0} where
  said_mapped : (f : X → Y) (o : Option X) → Says (option_map f o) → Says o
  said_mapped f None says = says
  said_mapped f (Some x) says = refl

  said_then : (f : X → Option Y) (o : Option X) → Says (option_and_then f o) → Says o
  said_then f None says = says
  said_then f (Some x) says = refl

-- ---- numbers

within_digits : (low high : ℕ) (text : List ℕ) → Says (number_within low high text) → are_digits text ≡ true
within_digits low high text says = number_digits text (said_then (within low high) (number_of text) says)

number_ends : (low high : ℕ) (text : List ℕ) → Says (number_within low high text) → ends_in_return text ≡ false
number_ends low high text says = digits_end text (within_digits low high text says)

fold_ends : (text : List ℕ) → Says (read_fold text) → ends_in_return text ≡ false
fold_ends text says =
    either_or (number_within 0 0 text) (number_within 2 100 text) (ends_in_return text ≡ false)
    (number_ends 0 0 text) (number_ends 2 100 text) says

lettered_file_ends : (text : List ℕ) → Says (lettered_file text) → ends_in_return text ≡ false
lettered_file_ends [] says = refl
lettered_file_ends (b ∷ []) says = byte_says (λ c. lettered_file (c ∷ [])) refl b says
lettered_file_ends (b ∷ c ∷ bs) says = cc

file_ends : (text : List ℕ) → Says (read_file text) → ends_in_return text ≡ false
file_ends text says =
    either_or (lettered_file text) (option_map (λ n. n - 1) (number_within 1 12 text)) (ends_in_return text ≡ false)
    (lettered_file_ends text)
    (λ numbered. number_ends 1 12 text (said_mapped (λ n. n - 1) (number_within 1 12 text) numbered))
    says

-- ---- words that stand for a value

module _ (text : List ℕ) where
  abbrev Good : Type 0
  Good = ends_in_return text ≡ false

  named : {X : Type 0} (word : List ℕ) (x : X) (rest : Option X) → ends_in_return word ≡ false → (Says rest → Good)
      → Says (if bytes_eq text word then Some x else rest) → Good
  named word x rest none later says =
      first_or (bytes_eq text word) x rest Good (same_text text word none) later says

  unnamed : true ≡ false → Good
  unnamed says = cc

  flag_ends : Says (read_flag text) → Good
  flag_ends says =
      named (codes "true") true (if bytes_eq text (codes "false") then Some false else None) refl
      (named (codes "false") false None refl unnamed) says

  result_ends : Says (read_result text) → Good
  result_ends says =
      named (codes "win") Win _ refl
      (named (codes "loss") Loss _ refl (named (codes "draw") Draw None refl unnamed)) says

  result_or_none_ends : Says (read_result_or_none text) → Good
  result_or_none_ends says =
      named (codes "none") None _ refl
      (λ said. result_ends (said_mapped (λ value. Some value) (read_result text) said)) says

-- ---- letters

letter_ends : (text : List ℕ) → Says (read_letter text) → ends_in_return text ≡ false
letter_ends [] says = refl
letter_ends (b ∷ []) says = byte_says (λ c. read_letter (c ∷ [])) refl b says
letter_ends (b ∷ c ∷ bs) says = cc

hyphen_ends : (text : List ℕ) → is_hyphen text ≡ true → ends_in_return text ≡ false
hyphen_ends [] e = refl
hyphen_ends (b ∷ []) e = byte_passes (λ c. c == 45) refl b e
hyphen_ends (b ∷ c ∷ bs) e = cc

star_ends : (text : List ℕ) → is_star text ≡ true → ends_in_return text ≡ false
star_ends [] e = refl
star_ends (b ∷ []) e = byte_passes (λ c. c == 42) refl b e
star_ends (b ∷ c ∷ bs) e = cc

letters_end : (text : List ℕ) → Says (read_letters text) → ends_in_return text ≡ false
letters_end text says =
    first_or (is_hyphen text) (mask_in [])
    (if nat_lt 0 (length text) && list_all is_letter_or_space text then Some (mask_in text) else None)
    (ends_in_return text ≡ false) (hyphen_ends text)
    (λ said.
    let letters = said_first (nat_lt 0 (length text) && list_all is_letter_or_space text) (mask_in text) said in
    all_pass is_letter_or_space refl text (and_parts (nat_lt 0 (length text)) _ letters).1)
    says

letters_or_all_end : (text : List ℕ) → Says (read_letters_or_all text) → ends_in_return text ≡ false
letters_or_all_end text says =
    first_or (is_star text) All (option_map (λ mask. Only mask) (read_letters text)) (ends_in_return text ≡ false)
    (star_ends text)
    (λ said. letters_end text (said_mapped (λ mask. Only mask) (read_letters text) said))
    says

-- ---- words

module _ {X : Type 0} (say : List ℕ → Option X)
    (good : (word : List ℕ) → Says (say word) → ends_in_return word ≡ false) where
  both_said : (word : Option X) (rest : Option (List X))
      → Says (option_and_then (λ x. option_map (onto x) rest) word) → Says word × Says rest
  both_said None rest says = cc
  both_said (Some x) None says = cc
  both_said (Some x) (Some xs) says = (refl, refl)

  words_end : (words : List (List ℕ)) → Says (each_said say words) → list_any ends_in_return words ≡ false
  unfolding each_said
  words_end [] says = refl
  words_end (word ∷ words) says =
      let both = both_said (say word) (each_said say words) says in
      or_from (ends_in_return word) (list_any ends_in_return words) (good word both.0) (words_end words both.1)

  said_words_end : (text : List ℕ) → Says (said_by_words say (words_of text)) → ends_in_return text ≡ false
  unfolding words_of
  said_words_end text says =
      let each = said_unless (is_nil (words_of text)) (each_said say (words_of text)) says in
      false_from_ne_true (ends_in_return text)
      (λ ends.
      both_ways (list_any ends_in_return (words_of text)) (words_end (words_of text) each)
      (nonempty_any (slice_split is_space text)
      (last_any (slice_split is_space text) (split_ends is_space refl text ends))))

  listed_ends : (text : List ℕ) → Says (listed say text) → ends_in_return text ≡ false
  unfolding listed
  listed_ends text says =
      first_or (is_hyphen text) [] (said_by_words say (words_of text)) (ends_in_return text ≡ false)
      (hyphen_ends text) (said_words_end text) says

pair_ends : (word : List ℕ) → Says (pair_of_kinds word) → ends_in_return word ≡ false
pair_ends [] says = refl
pair_ends (left ∷ []) says = cc
pair_ends (left ∷ colon ∷ []) says = cc
pair_ends (left ∷ colon ∷ right ∷ []) says = right_ends (colon == 58) (letter_of left) says
  where
    right_ends : (is : Bool) (l : _) → Says (if is then paired l (letter_of right) else None) → (right == 13) ≡ false
    right_ends true None says = cc
    right_ends true (Some l) says = byte_says (λ b. paired (Some l) (letter_of b)) refl right says
    right_ends false l says = cc
pair_ends (left ∷ colon ∷ right ∷ other ∷ bs) says = cc

area_rank : (b : ℕ) (rank : Option ℕ) → Says (area_on b rank) → Says rank
area_rank b None says = says
area_rank b (Some rank) says = refl

area_ends : (word : List ℕ) → Says (area_of word) → ends_in_return word ≡ false
area_ends [] says = refl
area_ends (b ∷ digits) says =
    digits_behind b digits (within_digits 1 10 digits (area_rank b (number_within 1 10 digits) says))

-- ---- the kinds of values

-- a value of an option; for the text of the start what is claimed is a premise
pub option_ends : (values : ValueKind) (text : List ℕ) → (values ≡ kind.Position → ends_in_return text ≡ false)
    → Says (read values text) → ends_in_return text ≡ false
option_ends kind.Flag text start says = flag_ends text says
option_ends (kind.Number low high) text start says = number_ends low high text says
option_ends kind.Fold text start says = fold_ends text says
option_ends kind.File text start says = file_ends text says
option_ends kind.Result text start says = result_ends text says
option_ends kind.ResultOrNone text start says = result_or_none_ends text says
option_ends kind.Letter text start says = letter_ends text says
option_ends kind.Letters text start says = letters_end text says
option_ends kind.LettersOrAll text start says = letters_or_all_end text says
option_ends kind.Pairs text start says = listed_ends pair_of_kinds pair_ends text says
option_ends kind.Region text start says =
    listed_ends area_of area_ends text (said_mapped region_of (listed area_of text) says)
option_ends kind.Position text start says = start refl
