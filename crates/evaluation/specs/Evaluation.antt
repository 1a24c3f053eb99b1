-- What a position is worth at a glance: the pieces of both sides, and how near they stand to the centre.
use Rattle.std.specs.Prelude.{ℕ, ◌+◌, ◌-◌, ◌*◌, ◌/◌, min, Bool, ◌&&◌, ◌||◌, ◌==◌, List, Option, Some, None, if◌then◌else◌, sum_by, nat_abs, ℤ, pos, negsuc, ◌-ℤ◌}
use Rattle.std.specs.Int.{int_max, int_min}
use Rattle.foundation.specs.Count.{below}
use Rattle.rules_model.specs.declared.board.Cell.{Cell}
use Rattle.rules_model.specs.declared.board.Kind.{Kind}
use Rattle.rules_model.specs.declared.board.Position.{Position}
use Rattle.rules_model.specs.declared.board.Side.{Side}
use Rattle.rules_model.specs.declared.board.Square.{Square}
use Rattle.rules_model.specs.declared.rules.Rules.{Rules}
use Rattle.rules_model.specs.declared.rules.Term.{Term}
use Rattle.rules_model.specs.declared.rules.Way.{Way}
use Rattle.rules_model.specs.declared.rules.Way.TheVariants.{Leap, Lame, Slide, Hop, Grass}
use Rattle.rules_model.specs.Hands.{in_hand}
use Rattle.rules_model.specs.Kinds.{is_king, is_pawn, terms_of}
use Rattle.rules_model.specs.Sides.{other, same_side}
use Rattle.rules_model.specs.Squares.{cell_at, file_of, rank_of}

-- ---- kinds

-- along a rank or a file
abbrev pub is_straight : Term → Bool
is_straight t = (nat_abs t.dx == 0) || (nat_abs t.dy == 0)

-- by the way, whether it is straight, and the greatest multiple
abbrev pub way_worth : Way → Bool → ℕ → ℕ
way_worth Leap straight limit = 35
way_worth Lame straight limit = 25
way_worth Slide straight limit = 35 + (if straight then 17 else 8) * min (limit - 1) 5
way_worth Hop straight limit = 60
way_worth Grass straight limit = 60

-- half of it, rounded down, where the term moves without taking, or takes alone
unfoldable pub term_worth : Term → ℕ
term_worth t = way_worth t.way (is_straight t) t.limit / (if t.quiet && t.takes then 1 else 2)

unfoldable pub kind_worth : Rules → Kind → ℕ
kind_worth rules kind =
    if is_king rules kind then 0 else if is_pawn rules kind then 100 else 20 + sum_by term_worth (terms_of rules kind)

-- ---- pieces

-- how far from the nearer of two edges, of so many files or ranks
abbrev pub from_edge : ℕ → ℕ → ℕ
from_edge size at = min at (size - 1 - at)

unfoldable pub square_worth : Rules → Square → ℕ
square_worth rules s = 4 * (from_edge rules.files (file_of s) + from_edge rules.ranks (rank_of s))

-- a piece that is no king
unfoldable pub worth_on : Rules → Kind → ℕ → ℕ
worth_on rules kind s = if is_king rules kind then 0 else kind_worth rules kind + square_worth rules (record { 0 = s })

-- what stands on a square, to the side
abbrev pub piece_worth : Rules → Side → ℕ → Option Cell → ℕ
piece_worth rules side s None = 0
piece_worth rules side s (Some c) = if same_side c.side side then worth_on rules c.kind s else 0

unfoldable pub board_worth : Rules → List (Option Cell) → Side → ℕ
board_worth rules cells side = sum_by (λ s. piece_worth rules side s (cell_at cells s)) (below 120)

unfoldable pub hand_worth : Rules → List (List ℕ) → Side → ℕ
hand_worth rules hands side =
    sum_by (λ k. in_hand hands side (record { 0 = k }) * kind_worth rules (record { 0 = k })) (below 26)

-- all that a side has
abbrev pub side_worth : Rules → Position → Side → ℕ
side_worth rules p side = board_worth rules p.cells side + hand_worth rules p.hands side

-- ---- the position, as the side to move sees it

-- from -30,000 to 30,000
abbrev pub clamped : ℤ → ℤ
clamped v = int_max (negsuc 29999) (int_min (pos 30000) v)

unfoldable pub evaluation : Rules → Position → ℤ
evaluation rules p = clamped (pos (side_worth rules p p.side) -ℤ pos (side_worth rules p (other p.side)))
