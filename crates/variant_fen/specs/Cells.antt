-- A board of which the ranks are read one after another.
use Rattle.std.specs.Prelude.{◌≡◌, ◌≢◌, ℕ, ◌+◌, ◌*◌, ◌/◌, ◌<◌, ◌≤◌, nat_lt, List, Option, Some, None, if◌then◌else◌, slice_index_or, slice_set}
use Rattle.rules_model.specs.declared.board.Cell.{Cell}
use Rattle.rules_model.specs.declared.rules.Rules.{Rules}

-- the cells with a piece on a file of a rank, where the board has the file
abbrev pub put_at : Rules → List (Option Cell) → ℕ → ℕ → Cell → List (Option Cell)
put_at rules cells rank file c = if nat_lt file rules.files then slice_set cells (12 * rank + file) (Some c) else cells

-- nothing stands on the rank, from a file on
abbrev pub IsFreeFrom : List (Option Cell) → ℕ → ℕ → Type 0
IsFreeFrom cells rank file = (f : ℕ) → file ≤ f → f < 12 → slice_index_or cells (12 * rank + f) None ≡ None

-- the same cells but for a rank
abbrev pub IsSameBut : ℕ → List (Option Cell) → List (Option Cell) → Type 0
IsSameBut rank old new = (s : ℕ) → s / 12 ≢ rank → slice_index_or new s None ≡ slice_index_or old s None
