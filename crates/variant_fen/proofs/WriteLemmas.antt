-- Texts piece by piece.
use Rattle.std.proofs.Common.{◌≡◌, ℕ, ◌+◌, ◌-◌, ◌*◌, ◌/◌, ◌%◌, ◌^◌, ◌<◌, ◌≤◌, List, [], ◌∷◌, ◌++◌, length, get_or, drop, map, Option, Some, None, Ok, Err, refl, sym, ap, ◌∙◌, arith, append_assoc, add-one}
use Rattle.std.specs.Result.{OnOk}
use Rattle.std.specs.declared.result.Result.{Result}
use Rattle.std.specs.Fmt.{decimal}
use Rattle.std.specs.List.{join_with_byte}
use Rattle.std.proofs.Math.Seq.{drop-cons}
use Rattle.std.proofs.lemmas.Fmt.{decimal_digit, decimal_step}
use Rattle.std.proofs.lemmas.List.{drop_all, length-map, map-append}
use Rattle.rules_model.specs.declared.board.Cell.{Cell}
use Rattle.rules_model.specs.declared.rules.Rules.{Rules}
use Rattle.fen_model.specs.Board.{row_at, rows_at}
use Rattle.fen_model.specs.Printing.{board_text, cell_text, row_text, run_text}
use Rattle.fen_model.proofs.BoardLaws.{length-rows_at, rows_at-more}
use Rattle.fen_model.proofs.RowLaws.{get_or-row_at, length-row_at}

-- ---- numbers

pub one_digit : (n : ℕ) → n < 10 → decimal n ≡ (48 + n % 10) ∷ []
one_digit n h = decimal_digit n h ∙ ap (λ d. (48 + d) ∷ []) (let e : n ≡ n % 10 = omega arith in e)

pub more_digits : (n : ℕ) → 10 ≤ n → n < 2 ^ 16 → decimal n ≡ decimal (n / 10) ++ (48 + n % 10) ∷ []
more_digits n h small = decimal_step n h (omega arith)

-- ---- rows

pub row_text-end : (rules : Rules) (empty : ℕ) → row_text rules empty [] ≡ run_text empty
unfolding row_text
row_text-end rules empty = refl

pub row_text-none : (rules : Rules) (empty : ℕ) (squares : List (Option Cell)) → row_text rules empty (None ∷ squares) ≡ row_text rules (empty + 1) squares
unfolding row_text
row_text-none rules empty squares = rw add-one refl

pub row_text-some : (rules : Rules) (empty : ℕ) (c : Cell) (squares : List (Option Cell)) → row_text rules empty (Some c ∷ squares) ≡ run_text empty ++ cell_text rules c ++ row_text rules 0 squares
unfolding row_text
row_text-some rules empty c squares = refl

-- the squares of a row from a file on
pub row-from : (cells : List (Option Cell)) (rank files file : ℕ) → file < files → drop file (row_at cells rank files) ≡ get_or cells (12 * rank + file) None ∷ drop (file + 1) (row_at cells rank files)
row-from cells rank files file below =
    let within : file < length (row_at cells rank files) = omega (arith, length-row_at cells rank files) in
    rw add-one (drop-cons (row_at cells rank files) file None within) ∙ ap (λ c. c ∷ drop (file + 1) (row_at cells rank files)) (get_or-row_at cells rank files file below)

pub row_none : (rules : Rules) (cells : List (Option Cell)) (rank file empty : ℕ) → file < rules.files → get_or cells (12 * rank + file) None ≡ None
    → row_text rules empty (drop file (row_at cells rank rules.files)) ≡ row_text rules (empty + 1) (drop (file + 1) (row_at cells rank rules.files))
row_none rules cells rank file empty below none =
    ap (row_text rules empty) (row-from cells rank rules.files file below ∙ ap (λ c. c ∷ drop (file + 1) (row_at cells rank rules.files)) none)
    ∙ row_text-none rules empty (drop (file + 1) (row_at cells rank rules.files))

pub row_some : (rules : Rules) (cells : List (Option Cell)) (rank file empty : ℕ) (c : Cell) → file < rules.files → get_or cells (12 * rank + file) None ≡ Some c
    → row_text rules empty (drop file (row_at cells rank rules.files)) ≡ run_text empty ++ cell_text rules c ++ row_text rules 0 (drop (file + 1) (row_at cells rank rules.files))
row_some rules cells rank file empty c below some =
    ap (row_text rules empty) (row-from cells rank rules.files file below ∙ ap (λ c. c ∷ drop (file + 1) (row_at cells rank rules.files)) some)
    ∙ row_text-some rules empty c (drop (file + 1) (row_at cells rank rules.files))

pub row_done : (rules : Rules) (cells : List (Option Cell)) (rank file empty : ℕ) → rules.files ≤ file → row_text rules empty (drop file (row_at cells rank rules.files)) ≡ run_text empty
row_done rules cells rank file empty all =
    ap (row_text rules empty) (drop_all file (row_at cells rank rules.files) (omega (arith, length-row_at cells rank rules.files))) ∙ row_text-end rules empty

-- three texts after another
pub three_after : (text a b c : List ℕ) → text ++ (a ++ b ++ c) ≡ ((text ++ a) ++ b) ++ c
three_after text a b c = sym (append_assoc text (a ++ b) c) ∙ ap (λ t. t ++ c) (sym (append_assoc text a b))

-- ---- ranks

join-more : (byte : ℕ) (x : List ℕ) (xs : List (List ℕ)) (last : List ℕ) → join_with_byte byte ((x ∷ xs) ++ last ∷ []) ≡ join_with_byte byte (x ∷ xs) ++ byte ∷ last
join-more byte x [] last = refl
join-more byte x (y ∷ ys) last = ap (λ rest. x ++ byte ∷ rest) (join-more byte y ys last) ∙ sym (append_assoc x (byte ∷ join_with_byte byte (y ∷ ys)) (byte ∷ last))

join_last : (byte : ℕ) (xs : List (List ℕ)) (last : List ℕ) → 0 < length xs → join_with_byte byte (xs ++ last ∷ []) ≡ join_with_byte byte xs ++ byte ∷ last
join_last byte [] last h = absurd (omega arith)
join_last byte (x ∷ xs) last h = join-more byte x xs last

-- the texts of the highest ranks
unfoldable pub ranks_text : Rules → List (Option Cell) → ℕ → List ℕ
ranks_text rules cells n = join_with_byte 47 (map (row_text rules 0) (rows_at rules cells n))

pub ranks_text-none : (rules : Rules) (cells : List (Option Cell)) → ranks_text rules cells 0 ≡ []
unfolding ranks_text rows_at
ranks_text-none rules cells = refl

ranks_text-first : (rules : Rules) (cells : List (Option Cell)) → ranks_text rules cells 1 ≡ row_text rules 0 (row_at cells (rules.ranks - 1 - 0) rules.files)
unfolding ranks_text rows_at
ranks_text-first rules cells = refl

pub ranks_text-next : (rules : Rules) (cells : List (Option Cell)) (n : ℕ) → n ≡ 0 → ranks_text rules cells (n + 1) ≡ row_text rules 0 (row_at cells (rules.ranks - 1 - n) rules.files)
ranks_text-next rules cells n first = rw first (ranks_text-first rules cells)

pub ranks_text-more : (rules : Rules) (cells : List (Option Cell)) (n : ℕ) → 0 < n → ranks_text rules cells (n + 1) ≡ ranks_text rules cells n ++ 47 ∷ row_text rules 0 (row_at cells (rules.ranks - 1 - n) rules.files)
unfolding ranks_text
ranks_text-more rules cells n some =
    ap (λ rows. join_with_byte 47 (map (row_text rules 0) rows)) (rows_at-more rules cells n)
    ∙ ap (join_with_byte 47) (map-append (row_text rules 0) (rows_at rules cells n) (row_at cells (rules.ranks - 1 - n) rules.files ∷ []))
    ∙ join_last 47 (map (row_text rules 0) (rows_at rules cells n)) _ (omega (arith, length-map (rows_at rules cells n) (row_text rules 0), length-rows_at rules cells n))

pub ranks_text-all : (rules : Rules) (cells : List (Option Cell)) → board_text rules cells ≡ ranks_text rules cells rules.ranks
unfolding ranks_text board_text
ranks_text-all rules cells = refl

pub ruleset writing = ranks_text-all

-- a fact after a call that was made, from another
pub after_ok : {A B : Type 0} (r : Result A B) (P Q : Type 0) → (P → Q) → OnOk r P → OnOk r Q
after_ok (Ok x) P Q f h = f h
after_ok (Err e) P Q f h = h
