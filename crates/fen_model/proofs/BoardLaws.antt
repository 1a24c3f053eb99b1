-- The rows of a board, from the highest on.
use Rattle.std.proofs.Common.{◌≡◌, ℕ, ◌+◌, ◌-◌, ◌*◌, ◌/◌, ◌%◌, ◌<◌, ◌≤◌, nat_lt, true, false, List, [], ◌∷◌, ◌++◌, length, get_or, reverse, Option, None, refl, sym, ap, ◌∙◌, arith, ⊎_elim}
use Rattle.std.proofs.Math.ListN.{get_or-eq_default}
use Rattle.std.proofs.lemmas.Bool.{cases_Bool, ltb-true, ltb-false}
use Rattle.std.proofs.lemmas.List.{get_or-reverse, length-reverse}
use Rattle.std.proofs.lemmas.List.FromFn.{length-map-range_with_len, get_or-map-range_with_len, map-range_with_len_more, fill_by_all}
use Rattle.rules_model.specs.declared.board.Cell.{Cell}
use Rattle.rules_model.specs.declared.rules.Rules.{Rules}
use Rattle.fen_model.specs.Board.{cells_from, row_at, rows_at, said_at}
use Rattle.fen_model.proofs.RowLaws.{get_or-row_at, length-row_at}

-- ---- the rows of a board

pub length-rows_at : (rules : Rules) (cells : List (Option Cell)) (n : ℕ) → length (rows_at rules cells n) ≡ n
unfolding rows_at
length-rows_at rules cells n = length-map-range_with_len (λ k. row_at cells (rules.ranks - 1 - k) rules.files) 0 n

pub get_or-rows_at : (rules : Rules) (cells : List (Option Cell)) (n k : ℕ) → k < n → get_or (rows_at rules cells n) k [] ≡ row_at cells (rules.ranks - 1 - k) rules.files
unfolding rows_at
get_or-rows_at rules cells n k below = get_or-map-range_with_len (λ j. row_at cells (rules.ranks - 1 - j) rules.files) 0 n k k [] below (omega arith)

pub rows_at-more : (rules : Rules) (cells : List (Option Cell)) (n : ℕ) → rows_at rules cells (n + 1) ≡ rows_at rules cells n ++ row_at cells (rules.ranks - 1 - n) rules.files ∷ []
unfolding rows_at
rows_at-more rules cells n = map-range_with_len_more (λ j. row_at cells (rules.ranks - 1 - j) rules.files) 0 n n (omega arith)

-- the highest rows are those of other cells that are the same there
pub rows_at-same : (rules : Rules) (cells others : List (Option Cell)) (n : ℕ) → ((k : ℕ) → k < n → row_at cells (rules.ranks - 1 - k) rules.files ≡ row_at others (rules.ranks - 1 - k) rules.files)
    → rows_at rules cells n ≡ rows_at rules others n
unfolding rows_at
rows_at-same rules cells others n same =
    fill_by_all (λ k. row_at others (rules.ranks - 1 - k) rules.files) (rows_at rules cells n) n [] (length-rows_at rules cells n)
    (λ k below. get_or-rows_at rules cells n k below ∙ same k below)

-- ---- off the board

abbrev pub IsFreeBeside : ℕ → List (Option Cell) → Type 0
IsFreeBeside files cells = (s : ℕ) → files ≤ s % 12 → get_or cells s None ≡ None

abbrev pub IsFreeAbove : ℕ → List (Option Cell) → Type 0
IsFreeAbove ranks cells = (s : ℕ) → ranks ≤ s / 12 → get_or cells s None ≡ None

beyond_row : (cells : List (Option Cell)) (rank files file : ℕ) → files ≤ file → get_or (row_at cells rank files) file None ≡ None
beyond_row cells rank files file h = get_or-eq_default (row_at cells rank files) None (omega (arith, length-row_at cells rank files))

said_there : (rules : Rules) (cells : List (Option Cell)) (s : ℕ) → IsFreeBeside rules.files cells → IsFreeAbove rules.ranks cells → said_at (rows_at rules cells rules.ranks) s ≡ get_or cells s None
said_there rules cells s beside above =
    let rows = rows_at rules cells rules.ranks in
    ⊎_elim
    (λ y. let low : s / 12 < rules.ranks = ltb-true _ _ y in
    let long : length rows ≡ rules.ranks = length-rows_at rules cells rules.ranks in
    let row : get_or (reverse rows) (s / 12) [] ≡ row_at cells (s / 12) rules.files =
    get_or-reverse rows (s / 12) [] (omega arith)
    ∙ get_or-rows_at rules cells rules.ranks (length rows - 1 - s / 12) (omega arith)
    ∙ ap (λ rank. row_at cells rank rules.files) (omega arith) in
    ap (λ squares. get_or squares (s % 12) None) row
    ∙ ⊎_elim
    (λ z. get_or-row_at cells (s / 12) rules.files (s % 12) (ltb-true _ _ z) ∙ ap (λ n. get_or cells n None) (omega arith))
    (λ m. beyond_row cells (s / 12) rules.files (s % 12) (ltb-false _ _ m) ∙ sym (beside s (ltb-false _ _ m)))
    (cases_Bool (nat_lt (s % 12) rules.files)))
    (λ n. let high : rules.ranks ≤ s / 12 = ltb-false _ _ n in
    ap (λ squares. get_or squares (s % 12) None) (get_or-eq_default (reverse rows) [] {n = s / 12} (omega (arith, length-reverse rows, length-rows_at rules cells rules.ranks)))
    ∙ sym (above s high))
    (cases_Bool (nat_lt (s / 12) rules.ranks))

-- the cells that the rows of a board say are its cells
pub cells_from-rows_at : (rules : Rules) (cells : List (Option Cell)) → length cells ≡ 120 → IsFreeBeside rules.files cells → IsFreeAbove rules.ranks cells
    → cells_from (rows_at rules cells rules.ranks) ≡ cells
unfolding cells_from
cells_from-rows_at rules cells long beside above =
    sym (fill_by_all (said_at (rows_at rules cells rules.ranks)) cells 120 None long (λ s below. sym (said_there rules cells s beside above)))
