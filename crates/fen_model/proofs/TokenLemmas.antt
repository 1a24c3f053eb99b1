-- Tokens of a rank.
use Rattle.std.proofs.Common.{◌≡◌, ◌⊎◌, inl, inr, ℕ, suc, Bool, ◌+◌, ◌<◌, ◌==◌, true, false, List, [], ◌∷◌, ◌++◌, take, drop, Option, Some, None, Ok, Err, refl, sym, ap, ◌∙◌, arith, ⊎_elim}
use Rattle.std.specs.declared.result.Result.{Result}
use Rattle.std.specs.List.{prefix_len}
use Rattle.std.proofs.lemmas.Bool.{cases_Bool}
use Rattle.std.proofs.lemmas.Grind.{common_steps}
use Rattle.rules_model.specs.declared.board.Cell.{Cell}
use Rattle.rules_model.specs.declared.rules.Rules.{Rules}
use Rattle.fen_model.specs.declared.fault.FenFault.{FenFault}
use Rattle.fen_model.specs.Board.{run_squares, squares_of, token_squares}
use Rattle.fen_model.specs.Chain.{◌>>=◌}
use Rattle.foundation.specs.Numbers.{is_digit}
use Rattle.fen_model.specs.Tokens.{Token, run, piece, tilde, stray, is_letter, letter_kind, with_digit, with_letter, with_plus, with_byte, tokens_of}

-- ---- runs

abbrev pub IsNoRun : List Token → Type 0
IsNoRun (run digits ∷ tokens) = ⊥
IsNoRun tokens = Unit {0}

abbrev pub with_run : List ℕ → List Token → List Token
with_run [] tokens = tokens
with_run (d ∷ ds) tokens = run (d ∷ ds) ∷ tokens

first_digit : (d : ℕ) (tokens : List Token) → IsNoRun tokens → with_digit d tokens ≡ run (d ∷ []) ∷ tokens
first_digit d [] h = refl
first_digit d (run digits ∷ tokens) h = absurd h
first_digit d (piece before c after ∷ tokens) h = refl
first_digit d (tilde ∷ tokens) h = refl
first_digit d (stray ∷ tokens) h = refl

digit_run : (d : ℕ) (ds : List ℕ) (tokens : List Token) → IsNoRun tokens → with_digit d (with_run ds tokens) ≡ run (d ∷ ds) ∷ tokens
digit_run d [] tokens h = first_digit d tokens h
digit_run d (e ∷ ds) tokens h = refl

letter_no_run : (c : ℕ) (tokens : List Token) → IsNoRun (with_letter c tokens)
letter_no_run c [] = tt
letter_no_run c (run digits ∷ tokens) = tt
letter_no_run c (piece before d after ∷ tokens) = tt
letter_no_run c (tilde ∷ tokens) = tt
letter_no_run c (stray ∷ tokens) = tt

plus_no_run : (tokens : List Token) → IsNoRun (with_plus tokens)
plus_no_run [] = tt
plus_no_run (run digits ∷ tokens) = tt
plus_no_run (piece true d after ∷ tokens) = tt
plus_no_run (piece false d after ∷ tokens) = tt
plus_no_run (tilde ∷ tokens) = tt
plus_no_run (stray ∷ tokens) = tt

byte_no_run : (b : ℕ) (tokens : List Token) → is_digit b ≡ false → IsNoRun (with_byte b tokens)
byte_no_run b tokens n =
    rw n (⊎_elim
    (λ y. rw y (letter_no_run b tokens))
    (λ m. rw m (⊎_elim
    (λ y. rw y (plus_no_run tokens))
    (λ o. rw o (⊎_elim (λ y. rw y tt) (λ p. rw p tt) (cases_Bool (b == 126))))
    (cases_Bool (b == 43))))
    (cases_Bool (is_letter b)))

one_more : (text : List ℕ) → 1 + prefix_len is_digit text ≡ suc (prefix_len is_digit text)
one_more text = omega arith

after_digits : (text : List ℕ) → IsNoRun (tokens_of (drop (prefix_len is_digit text) text))
unfolding tokens_of
after_digits [] = tt
after_digits (b ∷ bs) =
    ⊎_elim
    (λ y. rw y (let e = one_more bs in rw e (after_digits bs)))
    (λ n. rw n (byte_no_run b (tokens_of bs) n))
    (cases_Bool (is_digit b))

no_digit : (b : ℕ) (bs : List ℕ) → is_digit b ≡ false → prefix_len is_digit (b ∷ bs) ≡ 0
no_digit b bs n = rw n refl

-- the digits at the front are one token
pub run_first : (text : List ℕ) → tokens_of text ≡ with_run (take (prefix_len is_digit text) text) (tokens_of (drop (prefix_len is_digit text) text))
unfolding tokens_of
run_first [] = refl
run_first (b ∷ bs) =
    ⊎_elim
    (λ y. rw y (let e = one_more bs in rw e (rw (run_first bs) (digit_run b (take (prefix_len is_digit bs) bs) _ (after_digits bs)))))
    (λ n. ap (λ k. with_run (take k (b ∷ bs)) (tokens_of (drop k (b ∷ bs)))) (sym (no_digit b bs n)))
    (cases_Bool (is_digit b))

-- ---- letters

abbrev pub joined : Result (List (Option Cell)) FenFault → Result (List (Option Cell)) FenFault → Result (List (Option Cell)) FenFault
joined first others = first >>= (λ squares. others >>= (λ more. Ok (squares ++ more)))

pub squares_of-cons : (rules : Rules) (token : Token) (tokens : List Token) → squares_of rules (token ∷ tokens) ≡ joined (token_squares rules token) (squares_of rules tokens)
unfolding squares_of
squares_of-cons rules token tokens = refl

-- a piece's byte is a letter
unfoldable pub HasLetters : List Token → Type 0
HasLetters [] = Unit {0}
HasLetters (run digits ∷ tokens) = HasLetters tokens
HasLetters (piece before c after ∷ tokens) = (is_letter c ≡ true) × HasLetters tokens
HasLetters (tilde ∷ tokens) = HasLetters tokens
HasLetters (stray ∷ tokens) = HasLetters tokens

digit_has : (d : ℕ) (tokens : List Token) → HasLetters tokens → HasLetters (with_digit d tokens)
unfolding HasLetters
digit_has d [] h = tt
digit_has d (run digits ∷ tokens) h = h
digit_has d (piece before c after ∷ tokens) h = h
digit_has d (tilde ∷ tokens) h = h
digit_has d (stray ∷ tokens) h = h

letter_has : (c : ℕ) (tokens : List Token) → is_letter c ≡ true → HasLetters tokens → HasLetters (with_letter c tokens)
unfolding HasLetters
letter_has c [] h k = (h, tt)
letter_has c (run digits ∷ tokens) h k = (h, k)
letter_has c (piece before d after ∷ tokens) h k = (h, k)
letter_has c (tilde ∷ tokens) h k = (h, k)
letter_has c (stray ∷ tokens) h k = (h, k)

plus_has : (tokens : List Token) → HasLetters tokens → HasLetters (with_plus tokens)
unfolding HasLetters
plus_has [] h = tt
plus_has (run digits ∷ tokens) h = h
plus_has (piece true d after ∷ tokens) h = h
plus_has (piece false d after ∷ tokens) h = h
plus_has (tilde ∷ tokens) h = h
plus_has (stray ∷ tokens) h = h

tilde_has : (tokens : List Token) → HasLetters tokens → HasLetters (tilde ∷ tokens)
unfolding HasLetters
tilde_has tokens h = h

stray_has : (tokens : List Token) → HasLetters tokens → HasLetters (stray ∷ tokens)
unfolding HasLetters
stray_has tokens h = h

byte_has : (b : ℕ) (tokens : List Token) → HasLetters tokens → HasLetters (with_byte b tokens)
byte_has b tokens h =
    ⊎_elim
    (λ y. rw y (digit_has b tokens h))
    (λ n. rw n (⊎_elim
    (λ y. rw y (letter_has b tokens y h))
    (λ m. rw m (⊎_elim
    (λ y. rw y (plus_has tokens h))
    (λ o. rw o (⊎_elim (λ y. rw y (tilde_has tokens h)) (λ p. rw p (stray_has tokens h)) (cases_Bool (b == 126))))
    (cases_Bool (b == 43))))
    (cases_Bool (is_letter b))))
    (cases_Bool (is_digit b))

pub tokens_have : (text : List ℕ) → HasLetters (tokens_of text)
unfolding tokens_of HasLetters
tokens_have [] = tt
tokens_have (b ∷ bs) = byte_has b (tokens_of bs) (tokens_have bs)

pub kind_below : (c : ℕ) → is_letter c ≡ true → (letter_kind c).0 < 26
kind_below c h = grind (arith, common_steps)

-- digits at the front say empty squares, or have a fault
pub run_then : (rules : Rules) (text : List ℕ) → 0 < prefix_len is_digit text
    → squares_of rules (tokens_of text) ≡ joined (run_squares (take (prefix_len is_digit text) text)) (squares_of rules (tokens_of (drop (prefix_len is_digit text) text)))
run_then rules [] some = absurd (omega arith)
run_then rules (b ∷ bs) some =
    ⊎_elim
    (λ y. ap (squares_of rules) (run_first (b ∷ bs)) ∙ rw y (let e = one_more bs in rw e (squares_of-cons rules (run (b ∷ take (prefix_len is_digit bs) bs)) (tokens_of (drop (prefix_len is_digit bs) bs)))))
    (λ n. let none = no_digit b bs n in absurd (omega arith))
    (cases_Bool (is_digit b))

-- ---- letters and marks

abbrev pub IsNoTilde : List Token → Type 0
IsNoTilde (tilde ∷ tokens) = ⊥
IsNoTilde tokens = Unit {0}

-- the tokens begin with no letter that could take a `+`
abbrev pub IsNoLetter : List Token → Type 0
IsNoLetter (piece false c after ∷ tokens) = ⊥
IsNoLetter tokens = Unit {0}

letter_alone : (c : ℕ) (tokens : List Token) → IsNoTilde tokens → with_letter c tokens ≡ piece false c false ∷ tokens
letter_alone c [] h = refl
letter_alone c (run digits ∷ tokens) h = refl
letter_alone c (piece before d after ∷ tokens) h = refl
letter_alone c (tilde ∷ tokens) h = absurd h
letter_alone c (stray ∷ tokens) h = refl

plus_alone : (tokens : List Token) → IsNoLetter tokens → with_plus tokens ≡ stray ∷ tokens
plus_alone [] h = refl
plus_alone (run digits ∷ tokens) h = refl
plus_alone (piece true d after ∷ tokens) h = refl
plus_alone (piece false d after ∷ tokens) h = absurd h
plus_alone (tilde ∷ tokens) h = refl
plus_alone (stray ∷ tokens) h = refl

digit_no_tilde : (d : ℕ) (tokens : List Token) → IsNoTilde (with_digit d tokens)
digit_no_tilde d [] = tt
digit_no_tilde d (run digits ∷ tokens) = tt
digit_no_tilde d (piece before c after ∷ tokens) = tt
digit_no_tilde d (tilde ∷ tokens) = tt
digit_no_tilde d (stray ∷ tokens) = tt

digit_no_letter : (d : ℕ) (tokens : List Token) → IsNoLetter (with_digit d tokens)
digit_no_letter d [] = tt
digit_no_letter d (run digits ∷ tokens) = tt
digit_no_letter d (piece before c after ∷ tokens) = tt
digit_no_letter d (tilde ∷ tokens) = tt
digit_no_letter d (stray ∷ tokens) = tt

letter_no_tilde : (c : ℕ) (tokens : List Token) → IsNoTilde (with_letter c tokens)
letter_no_tilde c [] = tt
letter_no_tilde c (run digits ∷ tokens) = tt
letter_no_tilde c (piece before d after ∷ tokens) = tt
letter_no_tilde c (tilde ∷ tokens) = tt
letter_no_tilde c (stray ∷ tokens) = tt

plus_no_tilde : (tokens : List Token) → IsNoTilde (with_plus tokens)
plus_no_tilde [] = tt
plus_no_tilde (run digits ∷ tokens) = tt
plus_no_tilde (piece true d after ∷ tokens) = tt
plus_no_tilde (piece false d after ∷ tokens) = tt
plus_no_tilde (tilde ∷ tokens) = tt
plus_no_tilde (stray ∷ tokens) = tt

plus_no_letter : (tokens : List Token) → IsNoLetter (with_plus tokens)
plus_no_letter [] = tt
plus_no_letter (run digits ∷ tokens) = tt
plus_no_letter (piece true d after ∷ tokens) = tt
plus_no_letter (piece false d after ∷ tokens) = tt
plus_no_letter (tilde ∷ tokens) = tt
plus_no_letter (stray ∷ tokens) = tt

byte_no_tilde : (b : ℕ) (tokens : List Token) → (b == 126) ≡ false → IsNoTilde (with_byte b tokens)
byte_no_tilde b tokens differs =
    ⊎_elim
    (λ y. rw y (digit_no_tilde b tokens))
    (λ n. rw n (⊎_elim
    (λ y. rw y (letter_no_tilde b tokens))
    (λ m. rw m (⊎_elim
    (λ y. rw y (plus_no_tilde tokens))
    (λ o. rw o (rw differs tt))
    (cases_Bool (b == 43))))
    (cases_Bool (is_letter b))))
    (cases_Bool (is_digit b))

byte_no_letter : (b : ℕ) (tokens : List Token) → is_letter b ≡ false → IsNoLetter (with_byte b tokens)
byte_no_letter b tokens other =
    ⊎_elim
    (λ y. rw y (digit_no_letter b tokens))
    (λ n. rw n (rw other (⊎_elim
    (λ y. rw y (plus_no_letter tokens))
    (λ o. rw o (⊎_elim (λ y. rw y tt) (λ p. rw p tt) (cases_Bool (b == 126))))
    (cases_Bool (b == 43)))))
    (cases_Bool (is_digit b))

-- the text does not begin with `~`, or with a letter
abbrev pub NoTilde : List ℕ → Type 0
NoTilde [] = Unit {0}
NoTilde (b ∷ bs) = (b == 126) ≡ false

abbrev pub NoLetter : List ℕ → Type 0
NoLetter [] = Unit {0}
NoLetter (b ∷ bs) = is_letter b ≡ false

no_tilde : (text : List ℕ) → NoTilde text → IsNoTilde (tokens_of text)
unfolding tokens_of
no_tilde [] h = tt
no_tilde (b ∷ bs) h = byte_no_tilde b (tokens_of bs) h

no_letter : (text : List ℕ) → NoLetter text → IsNoLetter (tokens_of text)
unfolding tokens_of
no_letter [] h = tt
no_letter (b ∷ bs) h = byte_no_letter b (tokens_of bs) h

-- a letter is no digit
pub letter_no_digit : (c : ℕ) → is_letter c ≡ true → is_digit c ≡ false
letter_no_digit c h = grind (arith, common_steps)

pub digit_no_tilde_byte : (c : ℕ) → is_digit c ≡ true → (c == 126) ≡ false
digit_no_tilde_byte c h = grind (arith, common_steps)

letter_no_tilde_byte : (c : ℕ) → is_letter c ≡ true → (c == 126) ≡ false
letter_no_tilde_byte c h = grind (arith, common_steps)

with_letter-is : (c : ℕ) (tokens : List Token) → is_letter c ≡ true → with_byte c tokens ≡ with_letter c tokens
with_letter-is c tokens h = let n = letter_no_digit c h in rw (n, h) refl

-- a letter without a mark, one with `~`, and one with `+`
pub token_plain : (c : ℕ) (rest : List ℕ) → is_letter c ≡ true → NoTilde rest → tokens_of (c ∷ rest) ≡ piece false c false ∷ tokens_of rest
unfolding tokens_of
token_plain c rest h k = with_letter-is c (tokens_of rest) h ∙ letter_alone c (tokens_of rest) (no_tilde rest k)

pub token_tilde : (c : ℕ) (rest : List ℕ) → is_letter c ≡ true → tokens_of (c ∷ 126 ∷ rest) ≡ piece false c true ∷ tokens_of rest
unfolding tokens_of
token_tilde c rest h = with_letter-is c (tilde ∷ tokens_of rest) h

pub token_plus : (text : List ℕ) (c : ℕ) (after : Bool) (tokens : List Token) → tokens_of text ≡ piece false c after ∷ tokens → tokens_of (43 ∷ text) ≡ piece true c after ∷ tokens
unfolding tokens_of
token_plus text c after tokens h = ap with_plus h

-- a `+` before no letter
pub token_stray : (text : List ℕ) → NoLetter text → tokens_of (43 ∷ text) ≡ stray ∷ tokens_of text
unfolding tokens_of
token_stray text h = plus_alone (tokens_of text) (no_letter text h)

-- a byte that begins neither a run nor a piece
pub token_other : (b : ℕ) (rest : List ℕ) → is_digit b ≡ false → is_letter b ≡ false → (b == 43) ≡ false → (tokens_of (b ∷ rest) ≡ tilde ∷ tokens_of rest) ⊎ (tokens_of (b ∷ rest) ≡ stray ∷ tokens_of rest)
unfolding tokens_of
token_other b rest n m o =
    ⊎_elim (λ (y : (b == 126) ≡ true). inl (rw (n, m, o, y) refl)) (λ (p : (b == 126) ≡ false). inr (rw (n, m, o, p) refl)) (cases_Bool (b == 126))

-- the text of a piece with its marks
abbrev pub mark_text : Bool → ℕ → Bool → List ℕ
mark_text false c false = c ∷ []
mark_text false c true = c ∷ 126 ∷ []
mark_text true c false = 43 ∷ c ∷ []
mark_text true c true = 43 ∷ c ∷ 126 ∷ []

-- it is one token, where no `~` follows that could be its mark
pub token_piece : (before : Bool) (c : ℕ) (after : Bool) (rest : List ℕ) → is_letter c ≡ true → (after ≡ false → NoTilde rest) → tokens_of (mark_text before c after ++ rest) ≡ piece before c after ∷ tokens_of rest
token_piece false c false rest h k = token_plain c rest h (k refl)
token_piece false c true rest h k = token_tilde c rest h
token_piece true c false rest h k = token_plus (c ∷ rest) c false (tokens_of rest) (token_plain c rest h (k refl))
token_piece true c true rest h k = token_plus (c ∷ 126 ∷ rest) c true (tokens_of rest) (token_tilde c rest h)

-- it begins neither with a digit nor with `~`
pub mark_first : (before : Bool) (c : ℕ) (after : Bool) (rest : List ℕ) → is_letter c ≡ true → (b : ℕ) × (bs : List ℕ) × (mark_text before c after ++ rest ≡ b ∷ bs) × (is_digit b ≡ false) × ((b == 126) ≡ false)
mark_first false c false rest h = (c, rest, refl, letter_no_digit c h, letter_no_tilde_byte c h)
mark_first false c true rest h = (c, 126 ∷ rest, refl, letter_no_digit c h, letter_no_tilde_byte c h)
mark_first true c false rest h = (43, c ∷ rest, refl, refl, refl)
mark_first true c true rest h = (43, c ∷ 126 ∷ rest, refl, refl, refl)
