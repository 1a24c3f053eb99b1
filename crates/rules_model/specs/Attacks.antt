-- What a side attacks (FIDE Laws of Chess, article 3.1: a piece attacks a square where it may capture on that square,
-- also where it is itself kept from moving).
use Rattle.std.specs.Prelude.{ℕ, ◌%◌, min, max, nat_lt, Bool, false, ◌&&◌, ◌||◌, not, ◌==◌, is_some, if◌then◌else◌, Option, Some, None, List, ℤ, pos, negsuc}
use Rattle.foundation.specs.Count.{any_below}
use Rattle.rules_model.specs.declared.board.BoardSize.{BoardSize}
use Rattle.rules_model.specs.declared.board.Cell.{Cell}
use Rattle.rules_model.specs.declared.board.Kind.{Kind}
use Rattle.rules_model.specs.declared.board.Side.{Side}
use Rattle.rules_model.specs.declared.board.Square.{Square}
use Rattle.rules_model.specs.declared.reach.Ray.{Ray}
use Rattle.rules_model.specs.declared.rules.Rules.{Rules}
use Rattle.rules_model.specs.Squares.{turned, step_to, cell_at}
use Rattle.rules_model.specs.Reach.{is_at}
use Rattle.rules_model.specs.Sides.{other, same_side}
use Rattle.rules_model.specs.Kinds.{board_of, is_king, is_pawn}
use Rattle.rules_model.specs.Movement.{kind_reaches}

-- the squares one rank forward of a square, and dx files to the right at each rank, as the side sees them
abbrev pub pawn_ray : BoardSize → Side → ℤ → Square → Ray
pawn_ray board side dx from = record { board = board; from = from; dx = turned side dx; dy = turned side (pos 1) }

-- the square so many steps straight forward, where it is on the board
abbrev pub ahead : BoardSize → Side → Square → ℕ → Option ℕ
ahead board side from k = step_to (pawn_ray board side (pos 0) from) k

-- the square diagonally one step forward, to the right or to the left
abbrev pub right_ahead : BoardSize → Side → Square → Option ℕ
right_ahead board side from = step_to (pawn_ray board side (pos 1) from) 1

abbrev pub left_ahead : BoardSize → Side → Square → Option ℕ
left_ahead board side from = step_to (pawn_ray board side (negsuc 0) from) 1

-- a pawn of the side has the square diagonally one step forward
unfoldable pub is_diagonal : BoardSize → Side → Square → ℕ → Bool
is_diagonal board side from to = is_at to (right_ahead board side from) || is_at to (left_ahead board side from)

-- a piece of the side and of a kind that passes
abbrev pub is_own : Side → (Kind → Bool) → Option Cell → Bool
is_own side test None = false
is_own side test (Some c) = same_side c.side side && test c.kind

abbrev pub is_own_king : Rules → Side → Option Cell → Bool
is_own_king rules side c = is_own side (is_king rules) c

abbrev pub is_own_pawn : Rules → Side → Option Cell → Bool
is_own_pawn rules side c = is_own side (is_pawn rules) c

-- as a piece of the kind: the pawn diagonally, the others by their terms that take
abbrev pub attacks_as : Rules → List (Option Cell) → Side → Kind → Square → ℕ → Bool
attacks_as rules cells side kind from to =
    if is_pawn rules kind then is_diagonal (board_of rules) side from to
    else kind_reaches rules cells side kind (λ t. t.takes) from to

abbrev pub attacks_by : Rules → List (Option Cell) → Side → ℕ → Square → Option Cell → Bool
attacks_by rules cells by to from None = false
attacks_by rules cells by to from (Some c) = same_side c.side by && attacks_as rules cells by c.kind from to

-- what stands on `from` is a piece of the side and attacks `to`
unfoldable pub attacks_from : Rules → List (Option Cell) → Side → ℕ → ℕ → Bool
attacks_from rules cells by to from = attacks_by rules cells by to (record { 0 = from }) (cell_at cells from)

-- ---- the flying general (xiangqi; Fairy-Stockfish's `flyingGeneral`)

-- a piece stands on the square, which is one between two squares of its file
unfoldable pub stands_between : List (Option Cell) → ℕ → ℕ → ℕ → Bool
stands_between cells a b s = (s % 12 == a % 12) && nat_lt (min a b) s && nat_lt s (max a b) && is_some (cell_at cells s)

-- the side's king stands on `from`, on the file of `to`, and all squares between the two are empty
unfoldable pub king_faces : Rules → List (Option Cell) → Side → ℕ → ℕ → Bool
king_faces rules cells by to from =
    is_own_king rules by (cell_at cells from) && (from % 12 == to % 12)
    && not (any_below (stands_between cells from to) 120)

-- where kings fly: the square holds the other side's king, and the side's own king faces it along an open file
unfoldable pub flies_to : Rules → List (Option Cell) → Side → ℕ → Bool
flies_to rules cells by to =
    rules.flying && is_own_king rules (other by) (cell_at cells to) && any_below (king_faces rules cells by to) 120

-- ---- the whole

-- the side attacks the square, by a piece or by its flying king. But for that king, what stands on the square does not
-- matter
unfoldable pub attacks : Rules → List (Option Cell) → Side → ℕ → Bool
attacks rules cells by to = any_below (attacks_from rules cells by to) 120 || flies_to rules cells by to

unfoldable pub king_attacked_at : Rules → List (Option Cell) → Side → ℕ → Bool
king_attacked_at rules cells side s = is_own_king rules side (cell_at cells s) && attacks rules cells (other side) s

-- the side's king stands attacked (article 3.9): never in a variant without a king
unfoldable pub king_attacked : Rules → List (Option Cell) → Side → Bool
king_attacked rules cells side = any_below (king_attacked_at rules cells side) 120

abbrev pub pawn_at : Rules → List (Option Cell) → Side → Option ℕ → Bool
pawn_at rules cells side None = false
pawn_at rules cells side (Some s) = is_own_pawn rules side (cell_at cells s)

-- a pawn of the side stands so that it has the square diagonally one step forward: that is where, seen from the square,
-- the other side's forward diagonals lead
unfoldable pub pawn_could_take : Rules → List (Option Cell) → Side → Square → Bool
pawn_could_take rules cells side s =
    pawn_at rules cells side (right_ahead (board_of rules) (other side) s)
    || pawn_at rules cells side (left_ahead (board_of rules) (other side) s)
