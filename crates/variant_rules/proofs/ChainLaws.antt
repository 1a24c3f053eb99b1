-- What the chain of parents of a section without a fault says: its letters are letters, no piece shares the pawn's, and
-- the pawn has no word.
use Rattle.std.proofs.Common.{◌≡◌, ℕ, zero, suc, ◌+◌, ◌-◌, ◌<◌, ◌≤◌, Bool, true, false, ◌==◌, nat_le, List, [], ◌∷◌, Option, Some, None, IfSome, refl, ap, subst, arith, option_and_then, count_by, length, get_or, drop}
use Rattle.std.specs.Prelude.{if◌then◌else◌, codes}
use Rattle.std.proofs.lemmas.Bool.{and_parts, false_from_ne_true}
use Rattle.std.proofs.lemmas.Bool.Decides.{nat_tests}
use Rattle.foundation.specs.Tests.{one_if}
use Rattle.foundation.proofs.SetLemmas.{count_by-cons}
use Rattle.rules_model.specs.declared.board.Kind.{Kind}
use Rattle.rules_model.specs.Kinds.{names}
use Rattle.variant_ini.specs.declared.key_line.KeyLine.{KeyLine}
use Rattle.variant_ini.specs.Section.{Section, last_value, section_at}
use Rattle.variant_ini.specs.OptionValue.{option_value, parent_place}
use Rattle.variant_options.specs.Letters.{is_lower, is_upper, kind, letter_of}
use Rattle.variant_options.specs.LineFaults.{line_fault, piece_fault}
use Rattle.variant_options.specs.PieceTable.{PieceRow, PieceValue, lettered, lettered_by, pieces, read_piece, removed, spelled, spelled_by, value_letter, value_word, wordless}
use Rattle.variant_model.specs.PieceLetters.{gives_letter, letter_in, letter_with, letter_within, piece_letter}
use Rattle.variant_model.proofs.ChainLaws.{IsFaultless, IsGoodPair, letters_once, named_itself, value_good}

-- ---- letters

abbrev pub IsLetter : Kind → Type 0
IsLetter k = k.0 < 26

upper_letter : (b : ℕ) (upper : Bool) → is_upper b ≡ upper → IfSome (if upper then Some (kind (b - 65)) else None) IsLetter
upper_letter b true e = let most : nat_le b 90 ≡ true = (and_parts (nat_le 65 b) (nat_le b 90) e).1 in let m : b ≤ 90 = grind (arith, nat_tests, most) in omega arith
upper_letter b false e = tt

lower_letter : (b : ℕ) (lower : Bool) → is_lower b ≡ lower → IfSome (if lower then Some (kind (b - 97)) else if is_upper b then Some (kind (b - 65)) else None) IsLetter
lower_letter b true e = let most : nat_le b 122 ≡ true = (and_parts (nat_le 97 b) (nat_le b 122) e).1 in let m : b ≤ 122 = grind (arith, nat_tests, most) in omega arith
lower_letter b false e = upper_letter b (is_upper b) refl

letter_below : (b : ℕ) → IfSome (letter_of b) IsLetter
letter_below b = lower_letter b (is_lower b) refl

lettered_below : (letter : Option Kind) → IfSome letter IsLetter → IfSome (value_letter (lettered_by letter)) IsLetter
lettered_below None h = tt
lettered_below (Some k) h = h

spelled_below : (letter : Option Kind) (word : List ℕ) → IfSome letter IsLetter → IfSome (value_letter (spelled_by letter word)) IsLetter
spelled_below None word h = tt
spelled_below (Some k) word h = h

removed_or : (b : Bool) (value : Option PieceValue) → IfSome (value_letter value) IsLetter → IfSome (value_letter (if b then Some removed else value)) IsLetter
removed_or true value h = tt
removed_or false value h = h

value_or_none : (b : Bool) (value : Option PieceValue) → IfSome (value_letter value) IsLetter → IfSome (value_letter (if b then value else None)) IsLetter
value_or_none true value h = h
value_or_none false value h = tt

-- a value gives a letter from a to z
pub letter_in_below : (value : List ℕ) → IfSome (letter_in value) IsLetter
letter_in_below [] = tt
letter_in_below (b ∷ []) = removed_or (b == 45) (lettered_by (letter_of b)) (lettered_below (letter_of b) (letter_below b))
letter_in_below (b ∷ colon ∷ word) = value_or_none (colon == 58) (spelled_by (letter_of b) word) (spelled_below (letter_of b) word (letter_below b))

unless_below : (given : Bool) (k : Kind) → IsLetter k → IfSome (if given then None else Some k) IsLetter
unless_below true k h = tt
unless_below false k h = h

with_below : (lines : List KeyLine) (own : Option (List ℕ)) (inherited : Option Kind) → IfSome inherited IsLetter → IfSome (letter_with lines own inherited) IsLetter
with_below lines (Some value) inherited h = letter_in_below value
with_below lines None None h = tt
with_below lines None (Some k) h = unless_below (gives_letter lines k) k h

then_below : (f : ℕ → Option Kind) (parent : Option ℕ) → ((p : ℕ) → IfSome (f p) IsLetter) → IfSome (option_and_then f parent) IsLetter
then_below f None h = tt
then_below f (Some p) h = h p

within_below : (n : ℕ) (sections : List Section) (piece : List ℕ) (place : ℕ) → IfSome (letter_within n sections piece place) IsLetter
unfolding letter_within
within_below zero sections piece place = tt
within_below (suc n) sections piece place =
    with_below (section_at sections place).lines (last_value (section_at sections place).lines piece) _
    (then_below (letter_within n sections piece) (parent_place sections place) (λ p. within_below n sections piece p))

-- every piece's letter is one from a to z
pub piece_letter_below : (sections : List Section) (place : ℕ) (piece : List ℕ) → IfSome (piece_letter sections place piece) IsLetter
unfolding piece_letter
piece_letter_below sections place piece = within_below (place + 1) sections piece place

-- ---- the pawn

no_word_by : (value : Option PieceValue) → piece_fault (wordless (codes "pawn")) value ≡ None → value_word value ≡ None
no_word_by None e = refl
no_word_by (Some removed) e = refl
no_word_by (Some (lettered k)) e = refl
no_word_by (Some (spelled k word)) e = cc

pawn_word : (value : Option (List ℕ)) → ((v : List ℕ) → value ≡ Some v → IsGoodPair (codes "pawn") v)
    → value_word (option_and_then read_piece value) ≡ None
unfolding line_fault
pawn_word None h = refl
pawn_word (Some v) h = no_word_by (read_piece v) (h v refl)

-- no value of the pawn has a word
pub pawn_has_no_word : (sections : List Section) (place : ℕ) → IsFaultless sections place
    → value_word (option_and_then read_piece (option_value sections place (codes "pawn"))) ≡ None
pawn_has_no_word sections place good =
    pawn_word (option_value sections place (codes "pawn")) (λ v e. value_good sections (codes "pawn") v place good e)

-- ---- one letter for two pieces

-- the one at a place passes
count_one : {X : Type 0} (test : X → Bool) (xs : List X) (i : ℕ) (d : X) → i < length xs → test (get_or xs i d) ≡ true → 1 ≤ count_by test xs
count_one test [] i d l e = absurd (omega arith)
count_one test (x ∷ xs) zero d l e = let c = count_by-cons test x xs in let one : one_if (test x) ≡ one_if true = ap one_if e in omega (arith, c, one)
count_one test (x ∷ xs) (suc i) d l e = let rest = count_one test xs i d (omega arith) e in let c = count_by-cons test x xs in omega (arith, c, rest)

abbrev pawn : PieceRow
pawn = wordless (codes "pawn")

-- the pawn's key and that of a later piece
abbrev later : ℕ → PieceRow
later i = get_or pieces (suc i) pawn

pub is_letter : (letter : Option Kind) (k : Kind) → letter ≡ Some k → IfSome letter IsLetter → IsLetter k
is_letter letter k e h = subst (λ o. IfSome o IsLetter) e h

-- a later piece of the table does not have the pawn's letter
pub pawn_apart : (sections : List Section) (place i : ℕ) (k : Kind) → i < 55 → IsFaultless sections place
    → piece_letter sections place (codes "pawn") ≡ Some k → names (piece_letter sections place (later i).key) k ≡ false
pawn_apart sections place i k l good p =
    false_from_ne_true (names (piece_letter sections place (later i).key) k)
    (λ q.
    let has : PieceRow → Bool = λ piece. names (piece_letter sections place piece.key) k in
    let below : k.0 < 26 = is_letter _ k p (piece_letter_below sections place (codes "pawn")) in
    let once : count_by has pieces ≤ 1 = letters_once sections k.0 below place good in
    let rest : 1 ≤ count_by has (drop 1 pieces) = count_one has (drop 1 pieces) i pawn l q in
    let sum : count_by has pieces ≡ one_if (has pawn) + count_by has (drop 1 pieces) =
    count_by-cons has pawn (drop 1 pieces)
    in
    let first : one_if (has pawn) ≡ 1 =
    ap one_if (named_itself (piece_letter sections place (codes "pawn")) k p)
    in
    omega (arith, once, rest, sum, first))
