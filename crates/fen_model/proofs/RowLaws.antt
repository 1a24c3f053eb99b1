-- The row of a rank.
use Rattle.std.proofs.Common.{◌≡◌, ℕ, ◌+◌, ◌*◌, ◌<◌, List, [], length, get_or, Option, None, refl, ◌∙◌, arith}
use Rattle.std.proofs.lemmas.List.FromFn.{length-map-range_with_len, get_or-map-range_with_len, fill_by_all}
use Rattle.rules_model.specs.declared.board.Cell.{Cell}
use Rattle.fen_model.specs.Board.{row_at}

pub length-row_at : (cells : List (Option Cell)) (rank files : ℕ) → length (row_at cells rank files) ≡ files
unfolding row_at
length-row_at cells rank files = length-map-range_with_len (λ file. get_or cells (12 * rank + file) None) 0 files

pub get_or-row_at : (cells : List (Option Cell)) (rank files k : ℕ) → k < files → get_or (row_at cells rank files) k None ≡ get_or cells (12 * rank + k) None
unfolding row_at
get_or-row_at cells rank files k below = get_or-map-range_with_len (λ file. get_or cells (12 * rank + file) None) 0 files k k None below (omega arith)

-- a list is the row where it has each of its squares
pub is-row_at : (cells : List (Option Cell)) (rank files : ℕ) (squares : List (Option Cell)) → length squares ≡ files
    → ((k : ℕ) → k < files → get_or squares k None ≡ get_or cells (12 * rank + k) None) → squares ≡ row_at cells rank files
unfolding row_at
is-row_at cells rank files squares sized same = fill_by_all (λ file. get_or cells (12 * rank + file) None) squares files None sized same

-- the row is that of other cells with the same squares there
pub same-row_at : (cells others : List (Option Cell)) (rank files : ℕ) → ((k : ℕ) → k < files → get_or cells (12 * rank + k) None ≡ get_or others (12 * rank + k) None)
    → row_at cells rank files ≡ row_at others rank files
same-row_at cells others rank files same =
    is-row_at others rank files (row_at cells rank files) (length-row_at cells rank files) (λ k below. get_or-row_at cells rank files k below ∙ same k below)

pub row_at-none : (cells : List (Option Cell)) (rank : ℕ) → row_at cells rank 0 ≡ []
unfolding row_at
row_at-none cells rank = refl
