-- What a piece reaches: Betza's leapers, riders, lame leapers, and the hoppers `p` and `g`.
use Rattle.std.specs.Prelude.{ℕ, zero, suc, ◌+◌, ◌-◌, max, nat_lt, ◌≤◌, ◌==◌, Bool, false, ◌&&◌, if◌then◌else◌, Option, Some, None, List, ℤ, pos, negsuc, nat_abs, ◌≤ℤ◌}
use Rattle.foundation.specs.Count.{any_below}
use Rattle.rules_model.specs.declared.board.BoardSize.{BoardSize}
use Rattle.rules_model.specs.declared.board.Cell.{Cell}
use Rattle.rules_model.specs.declared.board.Side.{Side}
use Rattle.rules_model.specs.declared.board.Square.{Square}
use Rattle.rules_model.specs.declared.reach.Ray.{Ray}
use Rattle.rules_model.specs.declared.rules.Term.{Term}
use Rattle.rules_model.specs.declared.rules.Way.{Way}
use Rattle.rules_model.specs.declared.rules.Way.TheVariants.{Leap, Lame, Slide, Hop, Grass}
use Rattle.rules_model.specs.Squares.{turned, step_to, cell_at}

-- the multiples of a term's step from a square, as the side sees them
abbrev pub ray_of : BoardSize → Side → Term → Square → Ray
ray_of board side t from = record { board = board; from = from; dx = turned side t.dx; dy = turned side t.dy }

-- 1 where a piece stands
abbrev pub weight_of : Option Cell → ℕ
weight_of None = 0
weight_of (Some c) = 1

-- 1 where a piece stands on the square
abbrev pub weight : List (Option Cell) → Option ℕ → ℕ
weight cells None = 0
weight cells (Some s) = weight_of (cell_at cells s)

-- how many of the squares at 1 to k steps are occupied
unfoldable pub blockers : List (Option Cell) → Ray → ℕ → ℕ
blockers cells ray zero = 0
blockers cells ray (suc k) = blockers cells ray k + weight cells (step_to ray (suc k))

-- of the signs of a number
abbrev pub sign : ℤ → ℤ
sign (pos zero) = pos 0
sign (pos (suc n)) = pos 1
sign (negsuc n) = negsuc 0

-- a direction's part in its long leg: none where the other leg is longer
abbrev pub leg : ℤ → ℤ → ℤ
leg d other = if nat_lt (nat_abs d) (nat_abs other) then pos 0 else sign d

-- single squares along the long leg of the step, or along the step itself where it is straight or diagonal
abbrev pub long_leg : Ray → Ray
long_leg ray = record { board = ray.board; from = ray.from; dx = leg ray.dx ray.dy; dy = leg ray.dy ray.dx }

-- the block squares of a lame step: those of its long leg but the last
abbrev pub block_squares : Ray → ℕ
block_squares ray = max (nat_abs ray.dx) (nat_abs ray.dy) - 1

-- the way gets over the j squares between: a hopper over exactly one piece, `g` over one right before the target
unfoldable pub passes : List (Option Cell) → Way → Ray → ℕ → Bool
passes cells Leap ray j = j == 0
passes cells Lame ray j = (j == 0) && (blockers cells (long_leg ray) (block_squares ray) == 0)
passes cells Slide ray j = blockers cells ray j == 0
passes cells Hop ray j = blockers cells ray j == 1
passes cells Grass ray j = (blockers cells ray j == 1) && (weight cells (step_to ray j) == 1)

abbrev pub is_at : ℕ → Option ℕ → Bool
is_at s None = false
is_at s (Some r) = r == s

-- the square is that of j + 1 steps, and the way gets over the j squares between
unfoldable pub reaches_over : List (Option Cell) → Way → Ray → ℕ → ℕ → Bool
reaches_over cells way ray to j = is_at to (step_to ray (suc j)) && passes cells way ray j

-- a piece of the side on `from` reaches `to` by the term
abbrev pub reaches : BoardSize → List (Option Cell) → Side → Term → Square → ℕ → Bool
reaches board cells side t from to = any_below (reaches_over cells t.way (ray_of board side t from) to) t.limit

-- a board no larger than the largest
pub record IsOnBoard (board : BoardSize) : Type 0 where
  pub files : board.files ≤ 12
  pub ranks : board.ranks ≤ 10

-- a step of at most 128 squares, as a term's numbers allow
pub record IsShort (d : ℤ) : Type 0 where
  pub low : negsuc 127 ≤ℤ d
  pub high : d ≤ℤ pos 128
