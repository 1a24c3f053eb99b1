-- A board that is printed is read back.
use Rattle.std.proofs.Common.{◌≡◌, ℕ, zero, suc, ◌+◌, ◌-◌, ◌*◌, ◌/◌, ◌%◌, ◌^◌, ◌<◌, ◌≤◌, nat_lt, nat_le, ◌==◌, Bool, true, false, ◌&&◌, ◌||◌, List, [], ◌∷◌, ◌++◌, length, get_or, map, replicate, take, drop, Option, Some, None, Ok, Err, refl, sym, ap, ◌∙◌, arith, ⊎_elim, length-append, append_assoc, subst}
use Rattle.std.specs.declared.result.Result.{Result}
use Rattle.std.specs.Fmt.{decimal}
use Rattle.std.specs.List.{join_with_byte, list_all, prefix_len, slice_get, slice_split}
use Rattle.std.proofs.Math.ListN.{get_or-eq_default}
use Rattle.std.proofs.Math.Seq.{take-append_seam, drop-append_seam}
use Rattle.std.proofs.lemmas.Bool.{cases_Bool, le-leb, lt-leb, le-ltb, ltb-true, ltb-false, eqb-true, eq-eqb, and_from, and_parts, and_right, or_right}
use Rattle.std.proofs.lemmas.List.{append-nil, drop_all, take_all, length-map}
use Rattle.std.proofs.lemmas.List.Folds.{list_all-append}
use Rattle.rules_model.specs.declared.board.Cell.{Cell}
use Rattle.rules_model.specs.declared.board.Kind.{Kind}
use Rattle.rules_model.specs.declared.board.Position.{Position}
use Rattle.rules_model.specs.declared.board.Side.{Side}
use Rattle.rules_model.specs.declared.board.Side.TheVariants.{White, Black}
use Rattle.foundation.proofs.CountLemmas.{all_below-each}
use Rattle.rules_model.specs.declared.rules.KindRule.{KindRule}
use Rattle.rules_model.specs.declared.rules.Rules.{Rules}
use Rattle.rules_model.specs.Fit.{IsFit}
use Rattle.rules_model.specs.Kinds.{has_kind, is_pawn, kind_rule, masks, names, promoted_of, rule_of, rule_promoted}
use Rattle.rules_model.specs.Sound.{is_origin, is_sound_cell, on_board, sound_at}
use Rattle.fen_model.specs.declared.fault.FenFault.{FenFault}
use Rattle.fen_model.specs.Board.{cell_of, cells_of, is_slash, marked_cell, one_square, pawn_cell, promoted_cell, row_at, row_of, rows_at, rows_of, run_squares, squares_of}
use Rattle.foundation.specs.Numbers.{is_digit}
use Rattle.fen_model.specs.Printing.{board_text, cell_text, kind_letter, marked_text, row_text, run_text}
use Rattle.fen_model.specs.Tokens.{piece, is_letter, is_lower, is_upper, letter_kind, letter_side, tokens_of}
use Rattle.fen_model.proofs.BoardLaws.{cells_from-rows_at, length-rows_at, IsFreeAbove, IsFreeBeside}
use Rattle.fen_model.proofs.DecimalLaws.{decimal-writes, not-zero}
use Rattle.fen_model.proofs.JoinLaws.{Each, Lacks, each-range, join-all, join-short, lacks-from, split-join}
use Rattle.fen_model.proofs.RowLaws.{length-row_at}
use Rattle.fen_model.proofs.CellLaws.{cell_at-get_or}
use Rattle.fen_model.proofs.SoundParts.{Parts}
use Rattle.fen_model.proofs.TokenLemmas.{NoTilde, digit_no_tilde_byte, joined, mark_first, mark_text, run_then, squares_of-cons, token_piece}

-- ---- pieces

-- a piece of a kind of the variant, with an origin that it gives
abbrev pub IsGoodCell : Rules → Option Cell → Type 0
IsGoodCell rules None = Unit {0}
IsGoodCell rules (Some c) = (has_kind rules c.kind ≡ true) × (is_origin rules c.kind c.origin ≡ true)

no_entry : {A : Type 0} (xs : List A) (k : ℕ) → length xs ≤ k → slice_get xs k ≡ None
no_entry [] k h = refl
no_entry (x ∷ xs) zero h = absurd (omega arith)
no_entry (x ∷ xs) (suc k) h = no_entry xs k (omega arith)

no_rule : (rules : Rules) (k : ℕ) → length rules.kinds ≡ 26 → 26 ≤ k → kind_rule rules (record { 0 = k }) ≡ None
no_rule rules k kinds h = ap rule_of (no_entry rules.kinds k (omega arith))

pub small_kind : (rules : Rules) (kind : Kind) → IsFit rules → has_kind rules kind ≡ true → kind.0 < 26
small_kind rules kind fit h =
    ⊎_elim
    (λ y. ltb-true _ _ y)
    (λ n. let none = no_rule rules kind.0 fit.letters (ltb-false _ _ n) in let bad = rw none at h in cc)
    (cases_Bool (nat_lt kind.0 26))

-- a kind that is promoted is one of the variant's
promoting_kind : (rules : Rules) (origin : Kind) (o : Option KindRule) (kind : Kind) → kind_rule rules origin ≡ o → rule_promoted o ≡ Some kind → has_kind rules origin ≡ true
promoting_kind rules origin None kind e h = cc
promoting_kind rules origin (Some rule) kind e h = rw e refl

good-cell : (rules : Rules) (s : ℕ) (o : Option Cell) → is_sound_cell rules s o ≡ true → IsGoodCell rules o
good-cell rules s None h = tt
good-cell rules s (Some c) h = ((and_parts _ _ (and_parts _ _ h).0).1, (and_parts _ _ h).1)

-- nothing stands off the board
off-board : (rules : Rules) (s : ℕ) (o : Option Cell) → is_sound_cell rules s o ≡ true → on_board rules s ≡ false → o ≡ None
off-board rules s None h off = refl
off-board rules s (Some c) h off = let on = (and_parts (on_board rules s) (has_kind rules c.kind) (and_parts (on_board rules s && has_kind rules c.kind) (is_origin rules c.kind c.origin) h).0).0 in cc

-- ---- a piece's letter

white-letter : (k : ℕ) → k < 26 → is_upper (65 + k % 26) ≡ true
white-letter k h = and_from (nat_le 65 (65 + k % 26)) (nat_le (65 + k % 26) 90) (le-leb _ _ (omega arith)) (le-leb _ _ (omega arith))

black-letter : (k : ℕ) → k < 26 → is_lower (97 + k % 26) ≡ true
black-letter k h = and_from (nat_le 97 (97 + k % 26)) (nat_le (97 + k % 26) 122) (le-leb _ _ (omega arith)) (le-leb _ _ (omega arith))

not-upper : (k : ℕ) → is_upper (97 + k % 26) ≡ false
not-upper k = let high : nat_le (97 + k % 26) 90 ≡ false = lt-leb _ _ (omega arith) in rw high (and_right (nat_le 65 (97 + k % 26)) false refl)

pub letter-is : (side : Side) (kind : Kind) → kind.0 < 26 → is_letter (kind_letter side kind) ≡ true
letter-is White kind small = let up = white-letter kind.0 small in rw up refl
letter-is Black kind small = let none = not-upper kind.0 in let down = black-letter kind.0 small in rw none (rw down refl)

pub side-back : (side : Side) (kind : Kind) → kind.0 < 26 → letter_side (kind_letter side kind) ≡ side
side-back White kind small = let up = white-letter kind.0 small in rw up refl
side-back Black kind small = let none = not-upper kind.0 in rw none refl

pub kind-back : (side : Side) (kind : Kind) → kind.0 < 26 → letter_kind (kind_letter side kind) ≡ kind
kind-back White kind small = let up = white-letter kind.0 small in let e : (65 + kind.0 % 26) - 65 ≡ kind.0 = omega arith in rw up (rw e refl)
kind-back Black kind small = let none = not-upper kind.0 in let e : (97 + kind.0 % 26) - 97 ≡ kind.0 = omega arith in rw none (rw e refl)

no-digit : (side : Side) (kind : Kind) → is_digit (kind_letter side kind) ≡ false
no-digit White kind = let high : nat_le (65 + kind.0 % 26) 57 ≡ false = lt-leb _ _ (omega arith) in rw high (and_right (nat_le 48 (65 + kind.0 % 26)) false refl)
no-digit Black kind = let high : nat_le (97 + kind.0 % 26) 57 ≡ false = lt-leb _ _ (omega arith) in rw high (and_right (nat_le 48 (97 + kind.0 % 26)) false refl)

-- a digit, a letter or a mark
abbrev pub is_plain_byte : ℕ → Bool
is_plain_byte b = is_digit b || is_letter b || b == 43 || b == 126

or_of : (a c d : Bool) → (a || true || c || d) ≡ true
or_of true c d = refl
or_of false c d = refl

left_of : (a b : Bool) → (a || b) ≡ true → b ≡ false → a ≡ true
left_of true b h n = refl
left_of false b h n = cc

-- ---- the text of a piece

same_kind_of : (a b : Kind) → (a.0 == b.0) ≡ true → a ≡ b
same_kind_of a b h = let e = eqb-true a.0 b.0 h in rw e refl

-- the text says the piece, by a letter and its marks
pub record IsPieceText (rules : Rules) (c : Cell) (text : List ℕ) : Type 0 where
  pub before : Bool
  pub letter : ℕ
  pub after : Bool
  pub is : is_letter letter ≡ true
  pub cell : marked_cell rules before (letter_side letter) (letter_kind letter) after ≡ Some c
  pub marked : text ≡ mark_text before letter after

marked_at : (rules : Rules) (before after : Bool) (side : Side) (kind : Kind) → kind.0 < 26
    → marked_cell rules before (letter_side (kind_letter side kind)) (letter_kind (kind_letter side kind)) after ≡ marked_cell rules before side kind after
marked_at rules before after side kind small =
    ap (λ s. marked_cell rules before s (letter_kind (kind_letter side kind)) after) (side-back side kind small)
    ∙ ap (λ k. marked_cell rules before side k after) (kind-back side kind small)

plain_is : (rules : Rules) (side : Side) (kind : Kind) → has_kind rules kind ≡ true → marked_cell rules false side kind false ≡ Some (cell_of side kind None)
plain_is rules side kind has = rw has refl

plain_says : (rules : Rules) (side : Side) (kind : Kind) → IsFit rules → has_kind rules kind ≡ true → IsPieceText rules (cell_of side kind None) (kind_letter side kind ∷ [])
plain_says rules side kind fit has =
    let small = small_kind rules kind fit has in
    record {
      before = false;
      letter = kind_letter side kind;
      after = false;
      is = letter-is side kind small;
      cell = marked_at rules false false side kind small ∙ plain_is rules side kind has;
      marked = refl;
    }

plus_says : (rules : Rules) (side : Side) (origin kind : Kind) → IsFit rules → promoted_of rules origin ≡ Some kind → IsPieceText rules (cell_of side kind (Some origin)) (43 ∷ kind_letter side origin ∷ [])
plus_says rules side origin kind fit promoted =
    let small = small_kind rules origin fit (promoting_kind rules origin (kind_rule rules origin) kind refl promoted) in
    record {
      before = true;
      letter = kind_letter side origin;
      after = false;
      is = letter-is side origin small;
      cell = marked_at rules true false side origin small ∙ ap (promoted_cell rules side origin) promoted;
      marked = refl;
    }

pawn_is : (rules : Rules) (side : Side) (kind pawn : Kind) → (rules.to_hand && has_kind rules kind && masks rules.promotion_kinds kind) ≡ true → pawn_cell rules side kind (Some pawn) ≡ Some (cell_of side kind (Some pawn))
pawn_is rules side kind pawn h = rw h refl

tilde_says : (rules : Rules) (side : Side) (kind pawn : Kind) → IsFit rules → has_kind rules kind ≡ true → rules.pawn ≡ Some pawn → rules.to_hand ≡ true → masks rules.promotion_kinds kind ≡ true
    → IsPieceText rules (cell_of side kind (Some pawn)) (kind_letter side kind ∷ 126 ∷ [])
tilde_says rules side kind pawn fit has named to_hand promotes =
    let small = small_kind rules kind fit has in
    record {
      before = false;
      letter = kind_letter side kind;
      after = true;
      is = letter-is side kind small;
      cell = marked_at rules false true side kind small ∙ (ap (pawn_cell rules side kind) named ∙ pawn_is rules side kind pawn (and_from _ _ (and_from _ _ to_hand has) promotes));
      marked = refl;
    }

named_kind : (o : Option Kind) (kind : Kind) → names o kind ≡ true → o ≡ Some kind
named_kind None kind h = cc
named_kind (Some named) kind h = ap Some (same_kind_of named kind h)

origin_says : (rules : Rules) (side : Side) (kind : Kind) (origin : Option Kind) → IsFit rules → has_kind rules kind ≡ true → is_origin rules kind origin ≡ true
    → IsPieceText rules (cell_of side kind origin) (marked_text rules (cell_of side kind origin) origin)
origin_says rules side kind None fit has h = plain_says rules side kind fit has
origin_says rules side kind (Some origin) fit has h =
    ⊎_elim
    (λ (y : names (promoted_of rules origin) kind ≡ true). rw y (plus_says rules side origin kind fit (named_kind (promoted_of rules origin) kind y)))
    (λ (n : names (promoted_of rules origin) kind ≡ false).
    let first : (rules.to_hand && is_pawn rules origin && masks rules.promotion_kinds kind) ≡ true = left_of _ _ h n in
    let both = and_parts (rules.to_hand && is_pawn rules origin) (masks rules.promotion_kinds kind) first in
    let hand = and_parts rules.to_hand (is_pawn rules origin) both.0 in
    rw n (tilde_says rules side kind origin fit has (named_kind rules.pawn origin hand.1) hand.0 both.1))
    (cases_Bool (names (promoted_of rules origin) kind))

-- the text of a piece says it
cell_says : (rules : Rules) (c : Cell) → IsFit rules → IsGoodCell rules (Some c) → IsPieceText rules c (cell_text rules c)
cell_says rules c fit good = origin_says rules c.side c.kind c.origin fit good.0 good.1

cell_then : (rules : Rules) (c : Cell) (text rest : List ℕ) → IsPieceText rules c text → NoTilde rest → squares_of rules (tokens_of (text ++ rest)) ≡ joined (one_square (Some c)) (squares_of rules (tokens_of rest))
cell_then rules c text rest says free =
    ap (λ t. squares_of rules (tokens_of (t ++ rest))) says.marked
    ∙ ap (squares_of rules) (token_piece says.before says.letter says.after rest says.is (λ e. free))
    ∙ squares_of-cons rules (piece says.before says.letter says.after) (tokens_of rest)
    ∙ ap (λ o. joined (one_square o) (squares_of rules (tokens_of rest))) says.cell

cell_first : (rules : Rules) (c : Cell) (text rest : List ℕ) → IsPieceText rules c text → (b : ℕ) × (bs : List ℕ) × (text ++ rest ≡ b ∷ bs) × (is_digit b ≡ false) × ((b == 126) ≡ false)
cell_first rules c text rest says =
    let m = mark_first says.before says.letter says.after rest says.is in
    (m.0, m.1, ap (λ t. t ++ rest) says.marked ∙ m.2, m.3, m.4)

letter_byte : (b : ℕ) → is_letter b ≡ true → is_plain_byte b ≡ true
letter_byte b h = rw h (or_of (is_digit b) (b == 43) (b == 126))

mark_bytes : (before : Bool) (c : ℕ) (after : Bool) → is_letter c ≡ true → list_all is_plain_byte (mark_text before c after) ≡ true
mark_bytes false c false h = and_from _ _ (letter_byte c h) refl
mark_bytes false c true h = and_from _ _ (letter_byte c h) refl
mark_bytes true c false h = and_from (is_plain_byte 43) (is_plain_byte c && true) refl (and_from _ _ (letter_byte c h) refl)
mark_bytes true c true h = and_from (is_plain_byte 43) (is_plain_byte c && true) refl (and_from _ _ (letter_byte c h) refl)

cell_bytes : (rules : Rules) (c : Cell) (text : List ℕ) → IsPieceText rules c text → list_all is_plain_byte text ≡ true
cell_bytes rules c text says = ap (list_all is_plain_byte) says.marked ∙ mark_bytes says.before says.letter says.after says.is

mark_short : (rules : Rules) (c : Cell) (before : Bool) (letter : ℕ) (after : Bool) → marked_cell rules before (letter_side letter) (letter_kind letter) after ≡ Some c → length (mark_text before letter after) ≤ 2
mark_short rules c false letter false h = omega arith
mark_short rules c false letter true h = omega arith
mark_short rules c true letter false h = omega arith
mark_short rules c true letter true h = cc

cell_short : (rules : Rules) (c : Cell) (text : List ℕ) → IsPieceText rules c text → length text ≤ 2
cell_short rules c text says = let e = ap length says.marked in let short = mark_short rules c says.before says.letter says.after says.cell in omega (arith, e, short)

-- ---- rows

joined_nil : (r : Result (List (Option Cell)) FenFault) → joined (Ok (replicate 0 None)) r ≡ r
joined_nil (Ok squares) = refl
joined_nil (Err e) = refl

one-more : (n : ℕ) (row : List (Option Cell)) → replicate (suc n) None ++ row ≡ replicate n None ++ None ∷ row
one-more zero row = refl
one-more (suc n) row = ap (λ squares. None ∷ squares) (one-more n row)

digit_byte : (b : ℕ) → is_digit b ≡ true → is_plain_byte b ≡ true
digit_byte b h = rw h refl

digits-plain : (ds : List ℕ) → list_all is_digit ds ≡ true → list_all is_plain_byte ds ≡ true
digits-plain [] all = refl
digits-plain (d ∷ ds) all =
    let first = (and_parts (is_digit d) (list_all is_digit ds) all).0 in
    and_from _ _ (digit_byte d first) (digits-plain ds (and_parts (is_digit d) (list_all is_digit ds) all).1)

prefix-digits : (ds rest : List ℕ) → list_all is_digit ds ≡ true → (b : ℕ) (bs : List ℕ) → rest ≡ b ∷ bs → is_digit b ≡ false → prefix_len is_digit (ds ++ rest) ≡ length ds
prefix-digits [] rest all b bs is n = rw is (rw n refl)
prefix-digits (d ∷ ds) rest all b bs is n =
    let first = (and_parts (is_digit d) (list_all is_digit ds) all).0 in
    let more = prefix-digits ds rest (and_parts (is_digit d) (list_all is_digit ds) all).1 b bs is n in
    rw first (omega (arith, more))

all-digits : (ds : List ℕ) → list_all is_digit ds ≡ true → prefix_len is_digit ds ≡ length ds
all-digits [] all = refl
all-digits (d ∷ ds) all =
    let first = (and_parts (is_digit d) (list_all is_digit ds) all).0 in
    let more = all-digits ds (and_parts (is_digit d) (list_all is_digit ds) all).1 in
    rw first (omega (arith, more))

run-back : (n : ℕ) → n < 2 ^ 64 → 0 < n → run_squares (decimal n) ≡ Ok (replicate n None)
run-back n small some =
    let first = not-zero n some small in
    let w = decimal-writes n small in
    rw first (ap (λ k. Ok (replicate k None)) w.value)

-- a run, and then what begins with no digit
run_then_rest : (rules : Rules) (n : ℕ) (rest : List ℕ) (b : ℕ) (bs : List ℕ) → n < 2 ^ 64 → rest ≡ b ∷ bs → is_digit b ≡ false
    → squares_of rules (tokens_of (run_text n ++ rest)) ≡ joined (Ok (replicate n None)) (squares_of rules (tokens_of rest))
run_then_rest rules zero rest b bs small is no_digit = sym (joined_nil (squares_of rules (tokens_of rest)))
run_then_rest rules (suc n) rest b bs small is no_digit =
    let ds = decimal (suc n) in
    let w = decimal-writes (suc n) small in
    let long : prefix_len is_digit (ds ++ rest) ≡ length ds = prefix-digits ds rest w.digits b bs is no_digit in
    let some : 0 < prefix_len is_digit (ds ++ rest) = omega (arith, w.some) in
    run_then rules (ds ++ rest) some
    ∙ ap (λ k. joined (run_squares (take k (ds ++ rest))) (squares_of rules (tokens_of (drop k (ds ++ rest))))) long
    ∙ ap (λ front. joined (run_squares front) (squares_of rules (tokens_of (drop (length ds) (ds ++ rest))))) (take-append_seam ds rest)
    ∙ ap (λ back. joined (run_squares ds) (squares_of rules (tokens_of back))) (drop-append_seam ds rest)
    ∙ ap (λ first. joined first (squares_of rules (tokens_of rest))) (run-back (suc n) small (omega arith))

-- a run at the end
run_last : (rules : Rules) (n : ℕ) → n < 2 ^ 64 → squares_of rules (tokens_of (run_text n)) ≡ Ok (replicate n None)
unfolding tokens_of squares_of
run_last rules zero small = refl
run_last rules (suc n) small =
    let ds = decimal (suc n) in
    let w = decimal-writes (suc n) small in
    let long : prefix_len is_digit ds ≡ length ds = all-digits ds w.digits in
    run_then rules ds (omega (arith, w.some))
    ∙ ap (λ k. joined (run_squares (take k ds)) (squares_of rules (tokens_of (drop k ds)))) long
    ∙ ap (λ front. joined (run_squares front) (squares_of rules (tokens_of (drop (length ds) ds)))) (take_all (length ds) ds (omega arith))
    ∙ ap (λ back. joined (run_squares ds) (squares_of rules (tokens_of back))) (drop_all (length ds) ds (omega arith))
    ∙ ap (λ first. joined first (Ok [])) (run-back (suc n) small (omega arith))
    ∙ ap Ok (append-nil (replicate (suc n) None))

-- a row does not begin with `~`
digits_first : (ds rest : List ℕ) → list_all is_digit ds ≡ true → 0 < length ds → NoTilde (ds ++ rest)
digits_first [] rest all some = absurd (omega arith)
digits_first (d ∷ ds) rest all some = digit_no_tilde_byte d (and_parts (is_digit d) (list_all is_digit ds) all).0

run_no_tilde : (n : ℕ) (rest : List ℕ) → n < 2 ^ 64 → NoTilde rest → NoTilde (run_text n ++ rest)
run_no_tilde zero rest small free = free
run_no_tilde (suc n) rest small free = let w = decimal-writes (suc n) small in digits_first (decimal (suc n)) rest w.digits w.some

first_no_tilde : (text : List ℕ) (b : ℕ) (bs : List ℕ) → text ≡ b ∷ bs → (b == 126) ≡ false → NoTilde text
first_no_tilde text b bs is n = subst NoTilde (sym is) n

row_no_tilde : (rules : Rules) → IsFit rules → (n : ℕ) (row : List (Option Cell)) → n + length row < 2 ^ 64 → Each (IsGoodCell rules) row → NoTilde (row_text rules n row)
unfolding row_text
row_no_tilde rules fit n [] small each = subst NoTilde (append-nil (run_text n)) (run_no_tilde n [] (omega arith) tt)
row_no_tilde rules fit n (None ∷ row) small each = row_no_tilde rules fit (suc n) row (omega arith) each.1
row_no_tilde rules fit n (Some c ∷ row) small each =
    let first = cell_first rules c (cell_text rules c) (row_text rules 0 row) (cell_says rules c fit each.0) in
    subst NoTilde (sym (append_assoc (run_text n) (cell_text rules c) (row_text rules 0 row)))
    (run_no_tilde n (cell_text rules c ++ row_text rules 0 row) (omega arith) (first_no_tilde _ first.0 first.1 first.2 first.4))

-- the squares of a printed row
squares-back : (rules : Rules) → IsFit rules → (n : ℕ) (row : List (Option Cell)) → n + length row < 2 ^ 64 → Each (IsGoodCell rules) row
    → squares_of rules (tokens_of (row_text rules n row)) ≡ Ok (replicate n None ++ row)
unfolding row_text
squares-back rules fit n [] small each = run_last rules n (omega arith) ∙ ap Ok (sym (append-nil (replicate n None)))
squares-back rules fit n (None ∷ row) small each = squares-back rules fit (suc n) row (omega arith) each.1 ∙ ap Ok (one-more n row)
squares-back rules fit n (Some c ∷ row) small each =
    let rest = row_text rules 0 row in
    let says = cell_says rules c fit each.0 in
    let first = cell_first rules c (cell_text rules c) rest says in
    ap (λ t. squares_of rules (tokens_of t)) (append_assoc (run_text n) (cell_text rules c) rest)
    ∙ run_then_rest rules n (cell_text rules c ++ rest) first.0 first.1 (omega arith) first.2 first.3
    ∙ ap (joined (Ok (replicate n None))) (cell_then rules c (cell_text rules c) rest says (row_no_tilde rules fit 0 row (omega arith) each.1)
    ∙ ap (joined (one_square (Some c))) (squares-back rules fit 0 row (omega arith) each.1))

-- ---- the bytes and the length of a row

run-plain : (n : ℕ) → n < 2 ^ 64 → list_all is_plain_byte (run_text n) ≡ true
run-plain zero small = refl
run-plain (suc n) small = digits-plain (decimal (suc n)) (decimal-writes (suc n) small).digits

row-plain : (rules : Rules) → IsFit rules → (n : ℕ) (row : List (Option Cell)) → n + length row < 2 ^ 64 → Each (IsGoodCell rules) row → list_all is_plain_byte (row_text rules n row) ≡ true
unfolding row_text
row-plain rules fit n [] small each = run-plain n (omega arith)
row-plain rules fit n (None ∷ row) small each = row-plain rules fit (suc n) row (omega arith) each.1
row-plain rules fit n (Some c ∷ row) small each =
    list_all-append is_plain_byte (run_text n ++ cell_text rules c) (row_text rules 0 row)
    ∙ and_from _ _ (list_all-append is_plain_byte (run_text n) (cell_text rules c) ∙ and_from _ _ (run-plain n (omega arith)) (cell_bytes rules c (cell_text rules c) (cell_says rules c fit each.0)))
    (row-plain rules fit 0 row (omega arith) each.1)

run-short : (n : ℕ) → n < 2 ^ 64 → length (run_text n) ≤ 2 * n
run-short zero small = omega arith
run-short (suc n) small = let w = decimal-writes (suc n) small in omega (arith, w.short)

row-short : (rules : Rules) → IsFit rules → (n : ℕ) (row : List (Option Cell)) → n + length row < 2 ^ 64 → Each (IsGoodCell rules) row → length (row_text rules n row) ≤ 2 * (n + length row)
unfolding row_text
row-short rules fit n [] small each = omega (arith, run-short n (omega arith))
row-short rules fit n (None ∷ row) small each = let more = row-short rules fit (suc n) row (omega arith) each.1 in omega arith
row-short rules fit n (Some c ∷ row) small each =
    let more = row-short rules fit 0 row (omega arith) each.1 in
    let one = cell_short rules c (cell_text rules c) (cell_says rules c fit each.0) in
    let run = run-short n (omega arith) in
    omega (arith, more, one, run, length-append (run_text n ++ cell_text rules c) (row_text rules 0 row), length-append (run_text n) (cell_text rules c))

-- ---- the board

-- a row of such pieces, with a square for each file
abbrev pub IsGoodRow : Rules → List (Option Cell) → Type 0
IsGoodRow rules row = (length row ≡ rules.files) × Each (IsGoodCell rules) row

row-back : (rules : Rules) → IsFit rules → (row : List (Option Cell)) → rules.files ≤ 12 → IsGoodRow rules row → row_of rules (row_text rules 0 row) ≡ Ok row
unfolding row_of
row-back rules fit row few good =
    let long = good.0 in
    let said = squares-back rules fit 0 row (omega arith) good.1 in
    let test : (length row == rules.files) ≡ true = eq-eqb _ _ good.0 in
    rw said (rw test refl)

rows-back : (rules : Rules) → IsFit rules → (rows : List (List (Option Cell))) → rules.files ≤ 12 → Each (IsGoodRow rules) rows → rows_of rules (map (row_text rules 0) rows) ≡ Ok rows
unfolding rows_of
rows-back rules fit [] few each = refl
rows-back rules fit (row ∷ rows) few each =
    let first = row-back rules fit row few each.0 in
    let more = rows-back rules fit rows few each.1 in
    rw first (rw more refl)

each-text : {A : Type 0} (P : A → Type 0) (Q : List ℕ → Type 0) (f : A → List ℕ) (xs : List A) → ((x : A) → P x → Q (f x)) → Each P xs → Each Q (map f xs)
each-text P Q f [] h each = tt
each-text P Q f (x ∷ xs) h each = (h x each.0, each-text P Q f xs h each.1)

-- the cells of a board: such pieces on it, and nothing off it
pub record IsGoodBoard (rules : Rules) (cells : List (Option Cell)) : Type 0 where
  pub plain : (s : ℕ) → s < 120 → IsGoodCell rules (get_or cells s None)
  pub beside : IsFreeBeside rules.files cells
  pub above : IsFreeAbove rules.ranks cells
  pub long : length cells ≡ 120

pub plain-rows : (rules : Rules) (cells : List (Option Cell)) → IsFit rules → IsGoodBoard rules cells → Each (IsGoodRow rules) (rows_at rules cells rules.ranks)
unfolding rows_at row_at
plain-rows rules cells fit board =
    let few = fit.files_most in let low = fit.ranks_most in
    each-range (IsGoodRow rules) (λ k. row_at cells (rules.ranks - 1 - k) rules.files) 0 rules.ranks
    (λ k below. (
      length-row_at cells (rules.ranks - 1 - k) rules.files,
      each-range (IsGoodCell rules) (λ file. get_or cells (12 * (rules.ranks - 1 - k) + file) None) 0 rules.files (λ file short. board.plain (12 * (rules.ranks - 1 - k) + file) (omega arith)),
    ))

split-all : (byte : ℕ) (texts : List (List ℕ)) → 0 < length texts → Each (Lacks byte) texts → slice_split (λ b. b == byte) (join_with_byte byte texts) ≡ texts
split-all byte [] some each = absurd (omega arith)
split-all byte (text ∷ texts) some each = split-join byte text texts each

-- the texts of the ranks
unfoldable rank_texts : Rules → List (Option Cell) → List (List ℕ)
rank_texts rules cells = map (row_text rules 0) (rows_at rules cells rules.ranks)

length-rank_texts : (rules : Rules) (cells : List (Option Cell)) → length (rank_texts rules cells) ≡ rules.ranks
unfolding rank_texts
length-rank_texts rules cells = length-map (rows_at rules cells rules.ranks) (row_text rules 0) ∙ length-rows_at rules cells rules.ranks

each-rank : (rules : Rules) (cells : List (Option Cell)) → IsFit rules → IsGoodBoard rules cells → Each (λ text. (list_all is_plain_byte text ≡ true) × (length text ≤ 24)) (rank_texts rules cells)
unfolding rank_texts
each-rank rules cells fit board =
    let few = fit.files_most in
    each-text (IsGoodRow rules) _ (row_text rules 0) (rows_at rules cells rules.ranks)
    (λ row good. let long = good.0 in (row-plain rules fit 0 row (omega arith) good.1, (let short = row-short rules fit 0 row (omega arith) good.1 in omega arith)))
    (plain-rows rules cells fit board)

each-weaker : {A : Type 0} (P Q : A → Type 0) (xs : List A) → ((x : A) → P x → Q x) → Each P xs → Each Q xs
each-weaker P Q [] h each = tt
each-weaker P Q (x ∷ xs) h each = (h x each.0, each-weaker P Q xs h each.1)

pub cells-back : (rules : Rules) (cells : List (Option Cell)) → IsFit rules → IsGoodBoard rules cells → cells_of rules (board_text rules cells) ≡ Ok cells
unfolding cells_of board_text rank_texts
cells-back rules cells fit board =
    let some = fit.ranks_least in
    let count = length-rank_texts rules cells in
    let split : slice_split is_slash (join_with_byte 47 (rank_texts rules cells)) ≡ rank_texts rules cells =
    split-all 47 (rank_texts rules cells) (omega (arith, count)) (each-weaker _ (Lacks 47) (rank_texts rules cells) (λ text good. lacks-from is_plain_byte 47 text refl good.0) (each-rank rules cells fit board)) in
    let test : (length (rank_texts rules cells) == rules.ranks) ≡ true = eq-eqb _ _ count in
    let rows = rows-back rules fit (rows_at rules cells rules.ranks) fit.files_most (plain-rows rules cells fit board) in
    let back = cells_from-rows_at rules cells board.long board.beside board.above in
    rw split (rw test (rw rows (ap Ok back)))

-- the bytes of a placement, and how many they are
abbrev pub is_board_byte : ℕ → Bool
is_board_byte b = is_plain_byte b || b == 47

board-byte : (text : List ℕ) → list_all is_plain_byte text ≡ true → list_all is_board_byte text ≡ true
board-byte [] all = refl
board-byte (b ∷ bs) all =
    let first = (and_parts (is_plain_byte b) (list_all is_plain_byte bs) all).0 in
    and_from _ _ (rw first refl) (board-byte bs (and_parts (is_plain_byte b) (list_all is_plain_byte bs) all).1)

pub board-bytes : (rules : Rules) (cells : List (Option Cell)) → IsFit rules → IsGoodBoard rules cells → list_all is_board_byte (board_text rules cells) ≡ true
unfolding board_text rank_texts
board-bytes rules cells fit board =
    join-all is_board_byte 47 (rank_texts rules cells) refl (each-weaker _ (λ text. list_all is_board_byte text ≡ true) (rank_texts rules cells) (λ text good. board-byte text good.0) (each-rank rules cells fit board))

pub board-short : (rules : Rules) (cells : List (Option Cell)) → IsFit rules → IsGoodBoard rules cells → length (board_text rules cells) ≤ 250
unfolding board_text rank_texts
board-short rules cells fit board =
    let short = join-short 24 47 (rank_texts rules cells) (each-weaker _ (λ text. length text ≤ 24) (rank_texts rules cells) (λ text good. good.1) (each-rank rules cells fit board)) in
    let count = length-rank_texts rules cells in
    let most = fit.ranks_most in
    omega (arith, short, count, most)

off_beside : (rules : Rules) (s : ℕ) → rules.files ≤ s % 12 → on_board rules s ≡ false
off_beside rules s from = let none : nat_lt (s % 12) rules.files ≡ false = le-ltb _ _ from in rw none refl

off_above : (rules : Rules) (s : ℕ) → rules.ranks ≤ s / 12 → on_board rules s ≡ false
off_above rules s from = let none : nat_lt (s / 12) rules.ranks ≡ false = le-ltb _ _ from in rw none (and_right (nat_lt (s % 12) rules.files) false refl)

free_off : (rules : Rules) (cells : List (Option Cell)) (s : ℕ) → length cells ≡ 120 → (s < 120 → is_sound_cell rules s (get_or cells s None) ≡ true) → on_board rules s ≡ false → get_or cells s None ≡ None
free_off rules cells s long there off =
    ⊎_elim
    (λ y. off-board rules s (get_or cells s None) (there (ltb-true _ _ y)) off)
    (λ n. let from : 120 ≤ s = ltb-false _ _ n in get_or-eq_default cells None {n = s} (omega arith))
    (cases_Bool (nat_lt s 120))

-- a sound board is such a board
pub good-board : (rules : Rules) (p : Position) → Parts rules p → IsGoodBoard rules p.cells
unfolding sound_at
good-board rules p parts =
    let there = λ (s : ℕ) (below : s < 120). subst (λ o. is_sound_cell rules s o ≡ true) (cell_at-get_or p.cells s) (all_below-each (sound_at rules p.cells) 120 parts.cells s below) in
    record {
      plain = λ s below. good-cell rules s (get_or p.cells s None) (there s below);
      beside = λ s from. free_off rules p.cells s parts.sizes.cells (λ below. there s below) (off_beside rules s from);
      above = λ s from. free_off rules p.cells s parts.sizes.cells (λ below. there s below) (off_above rules s from);
      long = parts.sizes.cells;
    }
