-- What the writes of a move leave on the squares.
use Rattle.std.proofs.Common.{◌≡◌, ◌≢◌, ℕ, ◌+◌, ◌<◌, Bool, Option, Some, None, List, length, ap, sym, ◌∙◌, arith, length-set}
use Rattle.std.specs.Prelude.{slice_get, slice_set, count_by}
use Rattle.std.proofs.lemmas.Option.{slice_get-get_or}
use Rattle.foundation.specs.Tests.{one_if}
use Rattle.foundation.proofs.SetLemmas.{count_by-set, slice_get-set_other, slice_get-set_same}
use Rattle.rules_model.specs.declared.board.Cell.{Cell}
use Rattle.rules_model.specs.Squares.{cell_at, flat}

pub cell_at-set_same : (cells : List (Option Cell)) (s : ℕ) (c : Option Cell) → s < length cells → cell_at (slice_set cells s c) s ≡ c
cell_at-set_same cells s c l = ap flat (slice_get-set_same cells s c l)

pub cell_at-set_other : (cells : List (Option Cell)) (s t : ℕ) (c : Option Cell) → s ≢ t → cell_at (slice_set cells s c) t ≡ cell_at cells t
cell_at-set_other cells s t c apart = ap flat (slice_get-set_other cells s t c apart)

slice_get-cell : (cells : List (Option Cell)) (s : ℕ) → s < length cells → slice_get cells s ≡ Some (cell_at cells s)
slice_get-cell cells s l = let e = slice_get-get_or cells s None l in e ∙ ap (λ c. Some c) (sym (ap flat e))

-- how many cells pass a test after a write
pub count_cells-set : (p : Option Cell → Bool) (cells : List (Option Cell)) (s : ℕ) (c : Option Cell) → s < length cells → count_by p (slice_set cells s c) + one_if (p (cell_at cells s)) ≡ count_by p cells + one_if (p c)
count_cells-set p cells s c l = count_by-set p cells s (cell_at cells s) c (slice_get-cell cells s l)

-- ---- a piece that goes and stays what it is

abbrev pub moved : List (Option Cell) → ℕ → ℕ → Cell → List (Option Cell)
moved cells from to x = slice_set (slice_set cells from None) to (Some x)

pub moved-to : (cells : List (Option Cell)) (from to : ℕ) (x : Cell) → to < length cells → cell_at (moved cells from to x) to ≡ Some x
moved-to cells from to x l = let e = length-set cells from None in cell_at-set_same (slice_set cells from None) to (Some x) (omega (arith, e, l))

pub moved-from : (cells : List (Option Cell)) (from to : ℕ) (x : Cell) → from < length cells → to ≢ from → cell_at (moved cells from to x) from ≡ None
moved-from cells from to x l apart = cell_at-set_other (slice_set cells from None) to from (Some x) apart ∙ cell_at-set_same cells from None l

pub moved-other : (cells : List (Option Cell)) (from to s : ℕ) (x : Cell) → from ≢ s → to ≢ s → cell_at (moved cells from to x) s ≡ cell_at cells s
moved-other cells from to s x a b = cell_at-set_other (slice_set cells from None) to s (Some x) b ∙ cell_at-set_other cells from s None a
