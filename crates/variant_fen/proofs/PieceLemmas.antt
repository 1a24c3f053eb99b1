-- The piece at the front of a text.
use Rattle.std.proofs.Common.{◌≡◌, ℕ, suc, ◌+◌, ◌<◌, ◌==◌, Bool, true, false, List, [], ◌∷◌, ◌++◌, length, Option, Some, None, Ok, Err, refl, sym, ap, ◌∙◌, arith, subst, ⊎_elim}
use Rattle.std.specs.List.{prefix_len}
use Rattle.std.specs.Option.{IfNone}
use Rattle.std.proofs.lemmas.Bool.{cases_Bool, eqb-true}
use Rattle.rules_model.specs.declared.board.Cell.{Cell}
use Rattle.rules_model.specs.declared.rules.Rules.{Rules}
use Rattle.fen_model.specs.declared.fault.FenFault.{FenFault}
use Rattle.fen_model.specs.declared.fault.FenFault.TheVariants.{Letter}
use Rattle.fen_model.specs.Board.{marked_cell, one_square, squares_of}
use Rattle.foundation.specs.Numbers.{is_digit}
use Rattle.fen_model.specs.Tokens.{piece, tilde, stray, is_letter, letter_kind, letter_side, tokens_of}
use Rattle.fen_model.proofs.TokenLemmas.{NoLetter, NoTilde, joined, mark_text, squares_of-cons, token_other, token_piece, token_stray}
use Rattle.variant_fen.specs.Cut.{begins_with, unmarked}
use Rattle.variant_fen.specs.Pieces.{byte_cell, piece_first}

pub if_none : {A : Type 0} (P : Type 0) (o : Option A) → P → IfNone o P
if_none P None p = p
if_none P (Some x) p = tt

no_digit_first : (b : ℕ) (bs : List ℕ) → prefix_len is_digit (b ∷ bs) ≡ 0 → is_digit b ≡ false
no_digit_first b bs h =
    ⊎_elim (λ (y : is_digit b ≡ true). let k = rw y at h in absurd (omega (arith, k))) (λ (n : is_digit b ≡ false). n) (cases_Bool (is_digit b))

other_fault : (rules : Rules) (b : ℕ) (bs : List ℕ) → is_digit b ≡ false → is_letter b ≡ false → (b == 43) ≡ false → squares_of rules (tokens_of (b ∷ bs)) ≡ Err Letter
other_fault rules b bs n m o =
    ⊎_elim
    (λ t. ap (squares_of rules) t ∙ squares_of-cons rules tilde (tokens_of bs))
    (λ s. ap (squares_of rules) s ∙ squares_of-cons rules stray (tokens_of bs))
    (token_other b bs n m o)

plus_fault : (rules : Rules) (bs : List ℕ) → NoLetter bs → squares_of rules (tokens_of (43 ∷ bs)) ≡ Err Letter
plus_fault rules bs none = ap (squares_of rules) (token_stray bs none) ∙ squares_of-cons rules stray (tokens_of bs)

-- where no letter follows the mark, if there is one
pub no_letter_fault : (rules : Rules) (text : List ℕ) → 0 < length text → prefix_len is_digit text ≡ 0 → NoLetter (unmarked 43 text) → squares_of rules (tokens_of text) ≡ Err Letter
no_letter_fault rules [] some digits none = absurd (omega arith)
no_letter_fault rules (b ∷ bs) some digits none =
    ⊎_elim
    (λ (y : (b == 43) ≡ true).
    let here : NoLetter bs = (let k = rw y at none in k) in
    ap (λ x. squares_of rules (tokens_of (x ∷ bs))) (eqb-true b 43 y) ∙ plus_fault rules bs here)
    (λ (n : (b == 43) ≡ false).
    let other : is_letter b ≡ false = (let k = rw n at none in k) in
    other_fault rules b bs (no_digit_first b bs digits) other n)
    (cases_Bool (b == 43))

no_tilde_first : (text : List ℕ) → begins_with 126 text ≡ false → NoTilde (unmarked 126 text)
no_tilde_first [] h = tt
no_tilde_first (b ∷ bs) h = rw h h

after_letter : (letter : ℕ) (text : List ℕ) → letter ∷ text ≡ mark_text false letter (begins_with 126 text) ++ unmarked 126 text
after_letter letter [] = refl
after_letter letter (b ∷ bs) =
    ⊎_elim
    (λ (y : (b == 126) ≡ true). rw y (ap (λ x. letter ∷ x ∷ bs) (eqb-true b 126 y)))
    (λ (n : (b == 126) ≡ false). rw n refl)
    (cases_Bool (b == 126))

plus_first : (letter : ℕ) (after : Bool) (text : List ℕ) → 43 ∷ (mark_text false letter after ++ text) ≡ mark_text true letter after ++ text
plus_first letter false text = refl
plus_first letter true text = refl

-- the text is a piece's, and what follows it
said_as : (text : List ℕ) (letter : ℕ) (rest : List ℕ) → unmarked 43 text ≡ letter ∷ rest → text ≡ mark_text (begins_with 43 text) letter (begins_with 126 rest) ++ unmarked 126 rest
said_as [] letter rest is = cc
said_as (b ∷ bs) letter rest is =
    ⊎_elim
    (λ (y : (b == 43) ≡ true).
    let tail : bs ≡ letter ∷ rest = (let k = rw y at is in k) in
    rw y (ap (λ x. x ∷ bs) (eqb-true b 43 y) ∙ ap (λ t. 43 ∷ t) (tail ∙ after_letter letter rest) ∙ plus_first letter (begins_with 126 rest) (unmarked 126 rest)))
    (λ (n : (b == 43) ≡ false).
    let whole : b ∷ bs ≡ letter ∷ rest = (let k = rw n at is in k) in
    rw n (whole ∙ after_letter letter rest))
    (cases_Bool (b == 43))

piece_then : (rules : Rules) (text : List ℕ) (letter : ℕ) (rest : List ℕ) → unmarked 43 text ≡ letter ∷ rest → is_letter letter ≡ true
    → squares_of rules (tokens_of text) ≡ joined (one_square (marked_cell rules (begins_with 43 text) (letter_side letter) (letter_kind letter) (begins_with 126 rest))) (squares_of rules (tokens_of (unmarked 126 rest)))
piece_then rules text letter rest is a_letter =
    ap (λ t. squares_of rules (tokens_of t)) (said_as text letter rest is)
    ∙ ap (squares_of rules) (token_piece (begins_with 43 text) letter (begins_with 126 rest) (unmarked 126 rest) a_letter (no_tilde_first rest))
    ∙ squares_of-cons rules (piece (begins_with 43 text) letter (begins_with 126 rest)) (tokens_of (unmarked 126 rest))

is_cell : (rules : Rules) (before : Bool) (letter : ℕ) (after : Bool) (o : Option Cell) → is_letter letter ≡ true → byte_cell rules before letter after ≡ o → marked_cell rules before (letter_side letter) (letter_kind letter) after ≡ o
is_cell rules before letter after o a_letter h = let k = rw a_letter at h in k

no_cell : (rules : Rules) (before : Bool) (letter : ℕ) (after : Bool) (c : Cell) → byte_cell rules before letter after ≡ Some c → is_letter letter ≡ true
no_cell rules before letter after c h =
    ⊎_elim (λ (y : is_letter letter ≡ true). y) (λ (n : is_letter letter ≡ false). let k = rw n at h in cc) (cases_Bool (is_letter letter))

pub piece_said : (rules : Rules) (text : List ℕ) (letter : ℕ) (rest : List ℕ) (c : Cell) → unmarked 43 text ≡ letter ∷ rest → byte_cell rules (begins_with 43 text) letter (begins_with 126 rest) ≡ Some c
    → squares_of rules (tokens_of text) ≡ piece_first rules c (unmarked 126 rest)
piece_said rules text letter rest c is cell =
    let a_letter = no_cell rules (begins_with 43 text) letter (begins_with 126 rest) c cell in
    piece_then rules text letter rest is a_letter
    ∙ ap (λ o. joined (one_square o) (squares_of rules (tokens_of (unmarked 126 rest)))) (is_cell rules (begins_with 43 text) letter (begins_with 126 rest) (Some c) a_letter cell)

pub piece_fault : (rules : Rules) (text : List ℕ) (letter : ℕ) (rest : List ℕ) → 0 < length text → prefix_len is_digit text ≡ 0 → unmarked 43 text ≡ letter ∷ rest
    → byte_cell rules (begins_with 43 text) letter (begins_with 126 rest) ≡ None → squares_of rules (tokens_of text) ≡ Err Letter
piece_fault rules text letter rest some digits is cell =
    ⊎_elim
    (λ (y : is_letter letter ≡ true). piece_then rules text letter rest is y
    ∙ ap (λ o. joined (one_square o) (squares_of rules (tokens_of (unmarked 126 rest)))) (is_cell rules (begins_with 43 text) letter (begins_with 126 rest) None y cell))
    (λ (n : is_letter letter ≡ false). no_letter_fault rules text some digits (subst NoLetter (sym is) n))
    (cases_Bool (is_letter letter))

pub none_left : (text : List ℕ) → length text ≡ 0 → NoLetter text
none_left [] h = tt
none_left (b ∷ bs) h = absurd (omega arith)
