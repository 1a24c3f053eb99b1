-- Squares of a variant's board, and what stands on them.
use Rattle.std.specs.Prelude.{ℕ, ◌+◌, ◌*◌, ◌/◌, ◌%◌, nat_lt, if◌then◌else◌, Option, Some, None, slice_get, List, ℤ, pos, negsuc, ◌+ℤ◌, ◌*ℤ◌, neg_ℤ}
use Rattle.rules_model.specs.declared.board.Cell.{Cell}
use Rattle.rules_model.specs.declared.board.Side.{Side}
use Rattle.rules_model.specs.declared.board.Side.TheVariants.{White, Black}
use Rattle.rules_model.specs.declared.board.Square.{Square}
use Rattle.rules_model.specs.declared.reach.Ray.{Ray}

-- the square on a file and a rank, and the file and the rank of a square: all counted from 0
abbrev pub square_on : ℕ → ℕ → Square
square_on file rank = record { 0 = 12 * rank + file }

abbrev pub file_of : Square → ℕ
file_of s = s.0 % 12

abbrev pub rank_of : Square → ℕ
rank_of s = s.0 / 12

-- a direction as the side sees it: White's forward is towards higher ranks, and for Black both signs are turned
abbrev pub turned : Side → ℤ → ℤ
turned White d = d
turned Black d = neg_ℤ d

-- the number, where it is from 0 to below n
abbrev pub within : ℕ → ℤ → Option ℕ
within n (pos a) = if nat_lt a n then Some a else None
within n (negsuc a) = None

-- the square of a file and a rank
abbrev pub square_of : Option ℕ → Option ℕ → Option ℕ
square_of None rank = None
square_of (Some file) None = None
square_of (Some file) (Some rank) = Some (12 * rank + file)

-- the square k steps along the ray, where it is on the board
unfoldable pub step_to : Ray → ℕ → Option ℕ
step_to ray k =
    square_of (within ray.board.files (pos (ray.from.0 % 12) +ℤ (pos k *ℤ ray.dx)))
    (within ray.board.ranks (pos (ray.from.0 / 12) +ℤ (pos k *ℤ ray.dy)))

abbrev pub flat : Option (Option Cell) → Option Cell
flat None = None
flat (Some c) = c

-- what stands on a square
abbrev pub cell_at : List (Option Cell) → ℕ → Option Cell
cell_at cells s = flat (slice_get cells s)
